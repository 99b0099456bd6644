-- LAWS, each the contract of a function of this crate.
use Rattle.std.specs.Prelude.{◌↔◌, ◌⊎◌, ℕ, Bool, List, Contains}
use Rattle.text_edits.specs.Files.{PlainFile}
use Rattle.cond_formula.specs.Features.{has}
use Rattle.c_text.specs.Preprocessing.{Outcome, IsPreprocessed}
use Rattle.core_meaning.specs.Program.{PlainProgram}
use Rattle.project_file.specs.Projects.{PlainProject}
use Rattle.plain_pp.specs.Units.{sources_of, file_of}
use Rattle.project_program.specs.declared.programs.Stage.{Stage}
use Rattle.project_program.specs.Programs.{present_units, IsProgram, IsRefusedAt}
use Rattle.renamings.specs.Renamings.{Renaming, renamed_files, FitsFiles}
use Rattle.renamed_units.specs.Renamed.{renamed_outcome}
use Rattle.renamed_units.specs.Laws.{SameOutcomes}
use Rattle.program_occurrences.specs.Classes.{PlainFileToken}
use Rattle.reference_classes.specs.Renamed.{RenamesClass}
use Rattle.reference_classes.specs.Preconditions.{IsTouched}
use Rattle.renamed_sources.specs.Projects.{HasItsFiles}
use Rattle.untouched_projects.specs.Untouched.{ReadNoRenamed}

-- Where a class is renamed, each configuration is touched by it, or none of its units reads a renamed token.
abbrev pub ClassesAreTouchedOrNot : Type 0
ClassesAreTouchedOrNot =
    (project : PlainProject) (files : List PlainFile) (place : PlainFileToken) (new : List ℕ) (r : Renaming) (c : List Bool)
    → HasItsFiles project files → RenamesClass project files place new r
    → IsTouched project files place c ⊎ ReadNoRenamed r project files (has c)

-- Where the class isn't touched, the product has the program that it had, and no other, or the same stage refuses it.
pub record UntouchedClassesKeepProducts : Type 0 where
  pub programs :
      (project : PlainProject) (files : List PlainFile) (place : PlainFileToken) (new : List ℕ) (r : Renaming) (c : List Bool) (p : PlainProgram)
      → HasItsFiles project files → FitsFiles r files → RenamesClass project files place new r → (IsTouched project files place c → ⊥)
      → IsProgram project files (has c) p ↔ IsProgram project (renamed_files r 0 files) (has c) p
  pub refusals :
      (project : PlainProject) (files : List PlainFile) (place : PlainFileToken) (new : List ℕ) (r : Renaming) (c : List Bool) (stage : Stage)
      → HasItsFiles project files → FitsFiles r files → RenamesClass project files place new r → (IsTouched project files place c → ⊥)
      → IsRefusedAt project files (has c) stage ↔ IsRefusedAt project (renamed_files r 0 files) (has c) stage

-- There each unit that is present gives tokens of the same spellings as before, or is refused for the same reason, whether the project admits
-- the configuration or not.
abbrev pub UntouchedClassesKeepOutcomes : Type 0
UntouchedClassesKeepOutcomes =
    (project : PlainProject) (files : List PlainFile) (place : PlainFileToken) (new : List ℕ) (r : Renaming) (c : List Bool) (unit : ℕ) (outcome : Outcome)
    → HasItsFiles project files → FitsFiles r files → RenamesClass project files place new r → (IsTouched project files place c → ⊥)
    → Contains (present_units project (has c)) unit → IsPreprocessed (sources_of project files (has c)) (file_of project unit) outcome
    → IsPreprocessed (sources_of project (renamed_files r 0 files) (has c)) (file_of project unit) (renamed_outcome r outcome)
    × SameOutcomes outcome (renamed_outcome r outcome)
