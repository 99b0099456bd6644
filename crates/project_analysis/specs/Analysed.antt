-- What an analysis of a project says of its products, one configuration at a time.
use Rattle.std.specs.Prelude.{◌≡◌, List, Bool, length}
use Rattle.std.specs.List.{AllZip}
use Rattle.cond_formula.specs.Features.{has}
use Rattle.text_edits.specs.Files.{PlainFile}
use Rattle.project_file.specs.declared.projects.Project.{Project}
use Rattle.project_file.specs.View.{project_view}
use Rattle.cond_scopes.specs.Units.{present_trees}
use Rattle.project_check.specs.declared.forests.ParsedUnits.{ParsedUnits}
use Rattle.project_check.specs.Parsed.{AreParsed, HaveLeaves}
use Rattle.program_occurrences.specs.Occurrences.{names_of_units}
use Rattle.reference_classes.specs.Products.{Product}
use Rattle.tied_classes.specs.Told.{TellsProducts}
use Rattle.changed_forests.specs.Numbered.{IsNumbered}
use Rattle.told_occurrences.specs.Units.{AreTold}
use Rattle.project_ties.specs.Projects.{tied_tokens_of}
use Rattle.project_analysis.specs.declared.analysis.ToldProject.{ToldProject}
use Rattle.project_analysis.specs.declared.analysis.Analysis.{Analysis}

-- A product's units are parsed, each leaf of their trees a token of its stream, and told by the numbers of their tokens.
pub record IsToldOf (project : Project) (files : List PlainFile) (c : List Bool) (parsed : ParsedUnits) (told : ToldProject) : Type 0 where
  pub are_parsed : AreParsed (has c) project files parsed
  pub have_leaves : HaveLeaves (has c) project parsed
  pub units : AreTold (has c) project.units.items told.numbered.items (names_of_units (present_trees (has c) project.units.items told.numbered.items)) told.units.items

-- It tells the units of each product, and which tokens of files are tied in it.
pub record IsAnalysed (project : Project) (files : List PlainFile) (a : Analysis) : Type 0 where
  -- the trees once more, whose tokens tell their numbers
  pub numbered : AllZip IsNumbered a.parsed.forests.items a.told.numbered.items
  pub as_many : length a.told.numbered.items ≡ length project.units.items
  pub told : (c : List Bool) → Product (project_view project) files c → IsToldOf project files c a.parsed a.told
  pub ties : TellsProducts (project_view project) files (tied_tokens_of project a.ties)
