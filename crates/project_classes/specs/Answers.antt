-- What there is to rename at a place of a project's files.
use Rattle.std.specs.Prelude.{◌↔◌, List, Contains}
use Rattle.text_edits.specs.Files.{PlainFile}
use Rattle.c_text.specs.declared.origin.FileToken.{FileToken}
use Rattle.project_file.specs.Projects.{PlainProject}
use Rattle.command_projects.specs.Least.{Somewhere}
use Rattle.program_occurrences.specs.Classes.{PlainFileToken}
use Rattle.reference_classes.specs.Products.{InClass}
use Rattle.reference_classes.specs.Preconditions.{IsFound}
use Rattle.tied_tokens.specs.Tokens.{plain_file_tokens, AreInOrder}
use Rattle.project_classes.specs.declared.classes.ClassAnswer.{ClassAnswer}
use Rattle.project_classes.specs.declared.classes.ClassAnswer.TheVariants.{Class, Nothing}

-- these are exactly the tokens of the class, in the order of the files and of their texts
pub record IsClassOf (project : PlainProject) (files : List PlainFile) (place : PlainFileToken) (tokens : List FileToken) : Type 0 where
  pub found : Somewhere project (IsFound project files place)
  pub members : (token : PlainFileToken) → Contains (plain_file_tokens tokens) token ↔ InClass project files place token
  pub in_order : AreInOrder (plain_file_tokens tokens)

-- The place has an occurrence in some product, and this is its class; or it has one in none.
abbrev pub IsAnswer : PlainProject → List PlainFile → PlainFileToken → ClassAnswer → Type 0
IsAnswer project files place (Class tokens) = IsClassOf project files place tokens.items
IsAnswer project files place Nothing = Somewhere project (IsFound project files place) → ⊥
