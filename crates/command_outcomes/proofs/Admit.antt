-- `admit` comes to something.
use Rattle.std.proofs.Common.{◌≡◌, inl, inr, ℕ, ◌≤◌, List, length, refl, sym, ap, subst}
use Rattle.cond_formula.specs.Features.{has}
use Rattle.cond_formula.specs.Conditions.{VarsBelow}
use Rattle.text_edits.specs.Files.{Lookup}
use Rattle.project_file.specs.Projects.{PlainProject, IsProject, names_on}
use Rattle.file_outcomes.specs.Laws.{NoFileIsLeftOut}
use Rattle.command_admit.specs.Admit.{admits, admits_nothing, OfProject}
use Rattle.command_outcomes.specs.Concluding.{Concludes}
use Rattle.command_outcomes.specs.Laws.{AdmitConcludes}
use Rattle.command_outcomes.proofs.Courses.{says_so, project_concludes}
use Rattle.command_outcomes.proofs.Least.{least_or_none}

project_ends : (held : Lookup) (name bytes : List ℕ) (project : PlainProject) → IsProject name bytes project → Concludes (OfProject project) held
project_ends held name bytes project is =
    let features : length project.features ≡ length is.contents.features = ap length is.project_is.features in
    let few : length project.features ≤ 128 = subst (λ n. n ≤ 128) (sym features) is.says.are_contents.features.few in
    let below : VarsBelow (length project.features) project.model = subst (λ n. VarsBelow n project.model) (sym features) is.project_is.model.below in
    elim (least_or_none (length project.features) few project.model below) [
      | inl found ↦ says_so held (OfProject project) (admits (names_on (has found.config) project.features)) (inl (found.config, found.is_least, refl))
      | inr none ↦ says_so held (OfProject project) admits_nothing (inr (none, refl))
    ]

pub admit_ends : NoFileIsLeftOut → AdmitConcludes
admit_ends law alloc name held = project_concludes held law alloc name OfProject (λ project bytes is. project_ends held name bytes project is)
