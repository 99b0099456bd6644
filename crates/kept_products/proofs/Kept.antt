-- A class that is renamed as it may be keeps products, whether their configurations are touched or not.
use Rattle.std.proofs.Common.{ℕ, Bool, List, inl, inr}
use Rattle.std.specs.Prelude.{◌↔◌, ◌⊎◌}
use Rattle.text_edits.specs.Files.{PlainFile}
use Rattle.cond_formula.specs.Features.{has}
use Rattle.core_meaning.specs.Program.{PlainProgram}
use Rattle.project_file.specs.Projects.{PlainProject}
use Rattle.project_program.specs.declared.programs.Stage.{Stage}
use Rattle.project_program.specs.Programs.{IsProgram, IsRefusedAt}
use Rattle.project_program.specs.Laws.{ProgramsAreOne}
use Rattle.command_projects.specs.Least.{IsAdmitted}
use Rattle.renamings.specs.Renamings.{Renaming, renamed_files}
use Rattle.program_occurrences.specs.Classes.{PlainFileToken}
use Rattle.reference_classes.specs.Preconditions.{not_accepted, IsTouched, broken, macro_name, capture}
use Rattle.untouched_projects.specs.Untouched.{ReadNoRenamed, IsUntouched}
use Rattle.untouched_projects.specs.Laws.{UntouchedProjectsKeepPrograms, UntouchedProjectsKeepRefusals}
use Rattle.untouched_classes.specs.Laws.{ClassesAreTouchedOrNot}
use Rattle.renamed_classes.specs.Renaming.{MayBeMade}
use Rattle.renamed_classes.specs.Laws.{ClassesMayBeRenamed, TouchedClassesKeepPrograms}
use Rattle.renamed_classes.proofs.Told.{on-text-lines}
use Rattle.kept_products.specs.Laws.{RenamingsKeepProducts}

-- the laws that it follows from
pub record ProductLaws : Type 0 where
  pub one : ProgramsAreOne
  pub may_be : ClassesMayBeRenamed
  pub touched : TouchedClassesKeepPrograms
  pub touched_or_not : ClassesAreTouchedOrNot
  pub programs : UntouchedProjectsKeepPrograms
  pub refusals : UntouchedProjectsKeepRefusals

module _ (laws : ProductLaws) (project : PlainProject) (files : List PlainFile) (place : PlainFileToken) (new : List ℕ) (r : Renaming) (c : List Bool) (may : MayBeMade project files place new r) (admitted : IsAdmitted project c) where
  which : IsTouched project files place c ⊎ ReadNoRenamed r project files (has c)
  which = laws.touched_or_not project files place new r c may.has_files may.renames

  untouched : ReadNoRenamed r project files (has c) → IsUntouched r project files (has c)
  untouched unread = record { has_files = may.has_files; fits = (laws.may_be project files place new r c (on-text-lines project files place new r may) (may.unhindered macro_name) admitted).fits; unread = unread }

  -- a configuration that is touched is accepted, before and after
  refused-before : (stage : Stage) → IsTouched project files place c → IsRefusedAt project files (has c) stage → ⊥
  refused-before stage touched known =
      may.unhindered broken c admitted (record { touched = touched; stands_in_the_way = λ p is. laws.one.not_both project files (has c) p stage is known })

  refused-after : (stage : Stage) → IsTouched project files place c → IsRefusedAt project (renamed_files r 0 files) (has c) stage → ⊥
  refused-after stage touched known =
      may.unhindered capture c admitted
      (record { touched = touched; stands_in_the_way = not_accepted (λ p is. laws.one.not_both project (renamed_files r 0 files) (has c) p stage is known) })

  keeps-programs : (p : PlainProgram) → IsProgram project files (has c) p ↔ IsProgram project (renamed_files r 0 files) (has c) p
  keeps-programs p = by which
    where
      by : IsTouched project files place c ⊎ ReadNoRenamed r project files (has c) → IsProgram project files (has c) p ↔ IsProgram project (renamed_files r 0 files) (has c) p
      by (inl touched) = laws.touched project files place new r c p may admitted touched
      by (inr unread) = laws.programs r project files (has c) p (untouched unread)

  keeps-refusals : (stage : Stage) → IsRefusedAt project files (has c) stage ↔ IsRefusedAt project (renamed_files r 0 files) (has c) stage
  keeps-refusals stage = by which
    where
      by : IsTouched project files place c ⊎ ReadNoRenamed r project files (has c) → IsRefusedAt project files (has c) stage ↔ IsRefusedAt project (renamed_files r 0 files) (has c) stage
      by (inl touched) = (λ known. absurd (refused-before stage touched known), λ known. absurd (refused-after stage touched known))
      by (inr unread) = laws.refusals r project files (has c) stage (untouched unread)

pub products-kept : ProductLaws → RenamingsKeepProducts
products-kept laws = record {
  programs = λ project files place new r c p may admitted. keeps-programs laws project files place new r c may admitted p;
  refusals = λ project files place new r c stage may admitted. keeps-refusals laws project files place new r c may admitted stage;
}
