-- What becomes of products; it is the contract of a function of this crate.
use Rattle.std.specs.Prelude.{◌≡◌, ℕ, Bool, List, length}
use Rattle.text_edits.specs.Files.{PlainFile}
use Rattle.core_meaning.specs.Program.{PlainProgram}
use Rattle.project_file.specs.Projects.{PlainProject}
use Rattle.project_store.specs.Reads.{names_of}
use Rattle.project_program.specs.declared.programs.Stage.{Stage}
use Rattle.project_program.specs.Programs.{IsProgram, IsRefusedAt}

-- with a file for each name of the project, a product has a program, or a stage of translation refuses it
abbrev pub NoProductIsLeftOut : Type 0
NoProductIsLeftOut =
    (project : PlainProject) (files : List PlainFile) (on : ℕ → Bool) → length files ≡ length (names_of project)
    → ((program : PlainProgram) → IsProgram project files on program → ⊥) → ((stage : Stage) → IsRefusedAt project files on stage → ⊥) → ⊥
