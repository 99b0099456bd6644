-- What holds of programs of projects; each is the contract of a function of this crate.
use Rattle.std.specs.Prelude.{◌≡◌, ℕ, Bool, List}
use Rattle.text_edits.specs.Files.{PlainFile}
use Rattle.core_meaning.specs.Program.{PlainProgram}
use Rattle.project_file.specs.Projects.{PlainProject}
use Rattle.project_program.specs.declared.programs.Stage.{Stage}
use Rattle.project_program.specs.Programs.{IsProgram, IsRefusedAt}

-- A configuration has one program at most, or is refused at one stage, and not both.
pub record ProgramsAreOne : Type 0 where
  pub one_program : (project : PlainProject) (files : List PlainFile) (on : ℕ → Bool) (p q : PlainProgram) → IsProgram project files on p → IsProgram project files on q → p ≡ q
  pub one_stage : (project : PlainProject) (files : List PlainFile) (on : ℕ → Bool) (a b : Stage) → IsRefusedAt project files on a → IsRefusedAt project files on b → a ≡ b
  pub not_both : (project : PlainProject) (files : List PlainFile) (on : ℕ → Bool) (p : PlainProgram) (stage : Stage) → IsProgram project files on p → IsRefusedAt project files on stage → ⊥
