-- What is reached along ties that tell the products of a project; each is the contract of a function of this crate.
use Rattle.std.specs.Prelude.{◌↔◌, List}
use Rattle.text_edits.specs.Files.{PlainFile}
use Rattle.project_file.specs.Projects.{PlainProject}
use Rattle.command_projects.specs.Least.{Somewhere}
use Rattle.program_occurrences.specs.Classes.{PlainFileToken}
use Rattle.reference_classes.specs.Products.{InClass}
use Rattle.reference_classes.specs.Preconditions.{IsFound}
use Rattle.tied_tokens.specs.Ties.{PlainTiedTokens}
use Rattle.tied_tokens.specs.Reached.{IsReached, OccursSomewhere}
use Rattle.tied_classes.specs.Told.{TellsProducts}

-- the tokens that are reached from a place are its class
abbrev pub ReachedAreClass : Type 0
ReachedAreClass =
    (project : PlainProject) (files : List PlainFile) (all : PlainTiedTokens) → TellsProducts project files all
    → (place token : PlainFileToken) → IsReached all place token ↔ InClass project files place token

-- a tie tells whether there is anything to rename at a place
abbrev pub OccurrencesAreTold : Type 0
OccurrencesAreTold =
    (project : PlainProject) (files : List PlainFile) (all : PlainTiedTokens) → TellsProducts project files all
    → (place : PlainFileToken) → OccursSomewhere all place ↔ Somewhere project (IsFound project files place)
