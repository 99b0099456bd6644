-- The command `check PROJECT`: whether all products of a project are accepted, or the least that isn't and the stage that refuses it.
use Rattle.std.specs.Prelude.{◌≡◌, ℕ, false, List, [], ◌∷◌, ◌++◌, codes}
use Rattle.text_edits.specs.Files.{PlainFile}
use Rattle.cond_formula.specs.Features.{has}
use Rattle.project_file.specs.Projects.{PlainProject, names_on}
use Rattle.project_store.specs.Reads.{names_of}
use Rattle.project_program.specs.declared.programs.Stage.{Stage}
use Rattle.project_program.specs.Programs.{stage_name}
use Rattle.project_check.specs.declared.outcomes.CheckOutcome.{CheckOutcome}
use Rattle.project_check.specs.declared.outcomes.CheckOutcome.TheVariants.{Accepted, Broken}
use Rattle.project_check.specs.Checked.{IsChecked}
use Rattle.command_promises.specs.Courses.{Saying, says, Course}
use Rattle.command_promises.specs.Sayings.{line, tells}
use Rattle.command_promises.specs.Commands.{Command}
use Rattle.command_projects.specs.Names.{AsksProject, listed}
use Rattle.command_projects.specs.Projects.{WithProject, WithFiles}

abbrev pub accepted : Saying
accepted = tells 0 (line (codes "accepted"))

-- the stage refuses the configuration in which these features are on
abbrev pub broken : Stage → List (List ℕ) → Saying
broken stage names = tells 1 (line (codes "broken " ++ stage_name stage ++ codes " at " ++ listed names))

-- what is said of the products of a project with these features
abbrev pub said_of : List (List ℕ) → CheckOutcome → Saying
said_of features Accepted = accepted
said_of features (Broken c stage) = broken stage (names_on (has c) features)

-- what becomes of the products is said
abbrev pub OfProducts : PlainProject → List PlainFile → Course
OfProducts project sources files deed =
    (outcome : CheckOutcome) × IsChecked project sources outcome × (deed ≡ says (said_of project.features outcome))

-- the project's files are read first
abbrev pub OfProject : PlainProject → Course
OfProject project = WithFiles (names_of project) (OfProducts project)

-- and before them the project file
abbrev pub Does : List ℕ → Course
Does name = WithProject name OfProject

abbrev pub check : Command
check = record { word = codes "check"; Query = List ℕ; Asks = AsksProject; Does = Does; statuses = 0 ∷ 1 ∷ 5 ∷ []; writes = false }
