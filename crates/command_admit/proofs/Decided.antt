-- One least configuration, and one thing that is said of it.
use Rattle.std.proofs.Common.{◌≡◌, inl, inr, ℕ, Bool, true, false, List, [], length, refl, sym, ◌∙◌, ap, subst, arith, IsTrue}
use Rattle.text_edits.specs.Files.{PlainFile}
use Rattle.cond_formula.specs.Features.{has}
use Rattle.cond_formula.specs.Conditions.{Condition, value}
use Rattle.sat_core.specs.Models.{IsLeastModel, HasNoModel}
use Rattle.project_file.specs.Projects.{PlainProject, names_on}
use Rattle.project_file.specs.Faults.{Fault}
use Rattle.project_file.specs.Laws.{Alike}
use Rattle.command_promises.specs.Courses.{Saying, says, Agree}
use Rattle.command_promises.specs.Commands.{IsFit, IsDecidedCommand}
use Rattle.command_promises.proofs.Leading.{one_saying}
use Rattle.command_promises.proofs.Fitting.{tells_fits}
use Rattle.command_projects.specs.Faults.{bad_project}
use Rattle.command_projects.proofs.Decided.{ProjectLaws, one_project, project_decided, project_says}
use Rattle.command_projects.proofs.Least.{one_set}
use Rattle.command_admit.specs.Admit.{admits, admits_nothing, OfProject, admit}

-- conditions of one value have one least model
one_least : (features : ℕ) (x y : Condition) (a b : List Bool) → ((on : ℕ → Bool) → value on x ≡ value on y) → IsLeastModel features x a → IsLeastModel features y b → has a ≡ has b
one_least features x y a b same h k =
    one_set features (has a) (has b) h.within k.within (h.least (has b) (subst IsTrue (sym (same (has b))) k.holds)) (k.least (has a) (subst IsTrue (same (has a)) h.holds))

never_both : (x y : Condition) (features : ℕ) (a : List Bool) → ((on : ℕ → Bool) → value on x ≡ value on y) → IsLeastModel features x a → HasNoModel y → ⊥
never_both x y features a same h none =
    let off : value (has a) x ≡ false = same (has a) ∙ none (has a) in
    let on : value (has a) x ≡ true = h.holds in
    let f : ◌≡◌ {A = Bool} false true = sym off ∙ on in absurd cc

agree : (a b : PlainProject) → Alike a b → Agree (OfProject a) (OfProject b)
agree a b alike files c d (inl h) (inl k) =
    let moved : IsLeastModel (length a.features) b.model k.0 = subst (λ (names : List (List ℕ)). IsLeastModel (length names) b.model k.0) (sym alike.features) k.1 in
    let on : has h.0 ≡ has k.0 = one_least (length a.features) a.model b.model h.0 k.0 alike.model h.1 moved in
    h.2 ∙ (ap (λ on. says (admits (names_on on a.features))) on ∙ (ap (λ names. says (admits (names_on (has k.0) names))) alike.features ∙ sym k.2))
agree a b alike files c d (inl h) (inr k) = absurd (never_both a.model b.model (length a.features) h.0 alike.model h.1 k.0)
agree a b alike files c d (inr h) (inl k) = absurd (never_both b.model a.model (length b.features) k.0 (λ on. sym (alike.model on)) k.1 h.0)
agree a b alike files c d (inr h) (inr k) = h.1 ∙ sym k.1

admits_fits : (names : List (List ℕ)) → IsFit admit (admits names)
admits_fits names = tells_fits admit 0 (admits names).report (0, omega arith, refl) (inl (omega arith))

nothing_fits : IsFit admit admits_nothing
nothing_fits = tells_fits admit 0 admits_nothing.report (0, omega arith, refl) (inl (omega arith))

fault_fits : (fault : Fault) → IsFit admit (bad_project fault)
fault_fits fault = tells_fits admit 5 (bad_project fault).report (1, omega arith, refl) (inr (inl refl))

project_fits : (project : PlainProject) (files : List PlainFile) (what : Saying) → OfProject project files (says what) → IsFit admit what
project_fits project files what (inl h) =
    let x = admits (names_on (has h.0) project.features) in
    subst (IsFit admit) (sym (one_saying what x h.2)) (admits_fits (names_on (has h.0) project.features))
project_fits project files what (inr h) = subst (IsFit admit) (sym (one_saying what admits_nothing h.1)) nothing_fits

pub decided : ProjectLaws → IsDecidedCommand admit
decided laws = record {
  one_query = one_project;
  one_deed = λ name. project_decided laws name OfProject agree;
  fits = λ name. project_says (IsFit admit) fault_fits name OfProject project_fits;
}
