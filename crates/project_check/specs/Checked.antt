-- What becomes of all products of a project (ISO/IEC 9899:2011, 5.1.1.2).
use Rattle.std.specs.Prelude.{Bool, List}
use Rattle.cond_formula.specs.Features.{has}
use Rattle.text_edits.specs.Files.{PlainFile}
use Rattle.core_meaning.specs.Program.{PlainProgram}
use Rattle.project_file.specs.Projects.{PlainProject}
use Rattle.project_program.specs.declared.programs.Stage.{Stage}
use Rattle.project_program.specs.Programs.{IsProgram, IsRefusedAt}
use Rattle.command_projects.specs.Least.{IsAdmitted, IsLeast}
use Rattle.project_check.specs.declared.outcomes.CheckOutcome.{CheckOutcome}
use Rattle.project_check.specs.declared.outcomes.CheckOutcome.TheVariants.{Accepted, Broken}

-- the configuration is accepted: it has a program
abbrev pub IsAccepted : PlainProject → List PlainFile → List Bool → Type 0
IsAccepted project files c = (program : PlainProgram) × IsProgram project files (has c) program

-- a stage of translation refuses it
abbrev pub IsBroken : PlainProject → List PlainFile → List Bool → Type 0
IsBroken project files c = (stage : Stage) × IsRefusedAt project files (has c) stage

-- Each configuration that the project admits is accepted; or this is the least that is refused, and this the stage that refuses it.
abbrev pub IsChecked : PlainProject → List PlainFile → CheckOutcome → Type 0
IsChecked project files Accepted = (c : List Bool) → IsAdmitted project c → IsAccepted project files c
IsChecked project files (Broken c stage) = IsLeast project (IsBroken project files) c × IsRefusedAt project files (has c) stage
