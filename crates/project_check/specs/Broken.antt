-- Where a configuration has no program, and where the trees of its units have none.
use Rattle.std.specs.Prelude.{ℕ, Bool, true, false, List}
use Rattle.text_edits.specs.Files.{PlainFile}
use Rattle.core_meaning.specs.Program.{PlainProgram}
use Rattle.bindings.specs.Laws.{AreWritten}
use Rattle.project_file.specs.declared.projects.Project.{Project}
use Rattle.project_file.specs.Projects.{PlainProject}
use Rattle.project_program.specs.Programs.{IsProgram}
use Rattle.cond_scopes.specs.Units.{present_trees}
use Rattle.cond_types.specs.Elaborated.{TellsElaborated}
use Rattle.project_check.specs.declared.forests.ParsedUnits.{ParsedUnits}

-- a configuration has no program, or it has one
abbrev pub TellsProgram : Bool → PlainProject → List PlainFile → (ℕ → Bool) → Type 0
TellsProgram true project files on = (program : PlainProgram) → IsProgram project files on program → ⊥
TellsProgram false project files on = (program : PlainProgram) × IsProgram project files on program

-- the trees of the units that are present have no core program, or they have one, if their tokens are spelt as their kinds say
abbrev pub TellsTrees : Bool → (ℕ → Bool) → Project → ParsedUnits → Type 0
TellsTrees b on project parsed =
    AreWritten (present_trees on project.units.items parsed.forests.items) → TellsElaborated b (present_trees on project.units.items parsed.forests.items)
