-- The headline of renaming; it is the contract of a function of this crate.
use Rattle.std.specs.Prelude.{◌↔◌, ℕ, Bool, List}
use Rattle.text_edits.specs.Files.{PlainFile}
use Rattle.cond_formula.specs.Features.{has}
use Rattle.core_meaning.specs.Program.{PlainProgram}
use Rattle.project_file.specs.Projects.{PlainProject}
use Rattle.project_program.specs.declared.programs.Stage.{Stage}
use Rattle.project_program.specs.Programs.{IsProgram, IsRefusedAt}
use Rattle.command_projects.specs.Least.{IsAdmitted}
use Rattle.renamings.specs.Renamings.{Renaming, renamed_files}
use Rattle.program_occurrences.specs.Classes.{PlainFileToken}
use Rattle.renamed_classes.specs.Renaming.{MayBeMade}

-- A class is renamed as it may be. Then each configuration that the project admits is accepted exactly where it was, and has the program
-- that it had and no other; or the same stage refuses it.
pub record RenamingsKeepProducts : Type 0 where
  pub programs :
      (project : PlainProject) (files : List PlainFile) (place : PlainFileToken) (new : List ℕ) (r : Renaming) (c : List Bool) (p : PlainProgram)
      → MayBeMade project files place new r → IsAdmitted project c
      → IsProgram project files (has c) p ↔ IsProgram project (renamed_files r 0 files) (has c) p
  pub refusals :
      (project : PlainProject) (files : List PlainFile) (place : PlainFileToken) (new : List ℕ) (r : Renaming) (c : List Bool) (stage : Stage)
      → MayBeMade project files place new r → IsAdmitted project c
      → IsRefusedAt project files (has c) stage ↔ IsRefusedAt project (renamed_files r 0 files) (has c) stage
