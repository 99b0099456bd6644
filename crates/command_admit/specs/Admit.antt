-- The command `admit PROJECT`: the features that are on in the least configuration that the project admits.
use Rattle.std.specs.Prelude.{◌≡◌, ◌⊎◌, ℕ, Bool, false, List, [], ◌∷◌, ◌++◌, length, codes}
use Rattle.cond_formula.specs.Features.{has}
use Rattle.sat_core.specs.Models.{IsLeastModel, HasNoModel}
use Rattle.project_file.specs.Projects.{PlainProject, names_on}
use Rattle.command_promises.specs.Courses.{Saying, says, Course}
use Rattle.command_promises.specs.Sayings.{line, tells}
use Rattle.command_promises.specs.Commands.{Command}
use Rattle.command_projects.specs.Names.{AsksProject, listed}
use Rattle.command_projects.specs.Projects.{WithProject}

abbrev pub admits : List (List ℕ) → Saying
admits names = tells 0 (line (codes "admits " ++ listed names))

abbrev pub admits_nothing : Saying
admits_nothing = tells 0 (line (codes "admits nothing"))

-- the least configuration that the project admits is said, or that it admits none
abbrev pub OfProject : PlainProject → Course
OfProject project files deed =
    ((configuration : List Bool) × IsLeastModel (length project.features) project.model configuration
    × (deed ≡ says (admits (names_on (has configuration) project.features))))
    ⊎ (HasNoModel project.model × (deed ≡ says admits_nothing))

-- the project file is read, and then the least configuration is said
abbrev pub Does : List ℕ → Course
Does name = WithProject name OfProject

abbrev pub admit : Command
admit = record { word = codes "admit"; Query = List ℕ; Asks = AsksProject; Does = Does; statuses = 0 ∷ 5 ∷ []; writes = false }
