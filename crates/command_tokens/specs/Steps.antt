-- Models of what the code holds: no part of what the command means.
use Rattle.std.specs.Prelude.{◌≡◌, ℕ, ◌<◌, length, map}
use Rattle.cond_formula.specs.Features.{has}
use Rattle.project_file.specs.Projects.{PlainProject}
use Rattle.project_file.specs.View.{unit_view}
use Rattle.command_projects.specs.Products.{on_by}
use Rattle.command_tokens.specs.declared.words.UnitWords.{UnitWords}
use Rattle.command_tokens.specs.declared.unit.Choice.{Choice}
use Rattle.command_tokens.specs.Words.{UnitQuery}
use Rattle.command_tokens.specs.Tokens.{NumberedUnit, numbered, FitsProject}

-- the unit and configuration that the words ask for
abbrev pub query_of : UnitWords → UnitQuery
query_of q = record { project = q.project.now; unit = q.unit.now; names = map (λ name. name.items) q.names.items }

abbrev pub unit_of : Choice → NumberedUnit
unit_of choice = numbered choice.number (unit_view choice.unit.now)

-- the words fit the project, and this is what they name of it
pub record IsChoice (q : UnitQuery) (project : PlainProject) (choice : Choice) : Type 0 where
  pub fits : FitsProject q project (unit_of choice)
  pub there : choice.number < length project.units
  pub on : (number : ℕ) → has choice.c number ≡ on_by project.features q.names number
