-- Whether products have programs; it is the contract of a function of this crate.
use Rattle.std.specs.Prelude.{◌≡◌, ℕ, Bool, List, length}
use Rattle.text_edits.specs.Files.{PlainFile}
use Rattle.core_meaning.specs.Program.{PlainProgram}
use Rattle.project_file.specs.Projects.{PlainProject}
use Rattle.project_store.specs.Reads.{names_of}
use Rattle.project_program.specs.Programs.{IsProgram}

pub record HasProgram (project : PlainProject) (files : List PlainFile) (on : ℕ → Bool) : Type 0 where
  pub program : PlainProgram
  pub is_program : IsProgram project files on program

-- With a file for each name of the project, a product that can't lack a program has one: stage by stage it is found, or can't be.
abbrev pub ProgramsAreFound : Type 0
ProgramsAreFound =
    (project : PlainProject) (files : List PlainFile) (on : ℕ → Bool) → length files ≡ length (names_of project)
    → (((program : PlainProgram) → IsProgram project files on program → ⊥) → ⊥) → HasProgram project files on
