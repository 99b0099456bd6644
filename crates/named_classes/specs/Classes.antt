-- The class to which a byte of a project's files leads.
use Rattle.std.specs.Prelude.{ℕ, Bool, List}
use Rattle.text_edits.specs.Files.{PlainFile}
use Rattle.project_file.specs.Projects.{PlainProject}
use Rattle.command_projects.specs.Least.{Somewhere}
use Rattle.program_occurrences.specs.Classes.{PlainFileToken}
use Rattle.reference_classes.specs.Preconditions.{IsFound}
use Rattle.reference_classes.specs.Renamed.{IsWrittenAt}
use Rattle.tied_tokens.specs.Tokens.{AreInOrder}
use Rattle.class_touches.specs.Laws.{IsListOf}
use Rattle.class_edits.specs.Places.{HoldsByte}

-- the token that holds a byte, the name that is written there, and the tokens of its class
pub record NamedClass : Type 0 where
  pub place : PlainFileToken
  pub old : List ℕ
  pub tokens : List PlainFileToken

module _ (project : PlainProject) (files : List PlainFile) (file offset : ℕ) where
  -- a configuration that is accepted has an occurrence at the token that holds the byte
  pub record Finds (c : List Bool) : Type 0 where
    pub place : PlainFileToken
    pub holds : HoldsByte files file offset place
    pub found : IsFound project files place c

  -- Some product has an occurrence there. Its tokens are listed in the order of the files and of their texts.
  pub record IsNamedClass (class : NamedClass) : Type 0 where
    pub holds : HoldsByte files file offset class.place
    pub written : IsWrittenAt files class.place class.old
    pub found : Somewhere project (IsFound project files class.place)
    pub members : IsListOf project files class.place class.tokens
    pub in_order : AreInOrder class.tokens
