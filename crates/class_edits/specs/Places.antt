-- Tokens of the texts of files, and which of them a place of a file stands for.
use Rattle.std.specs.Prelude.{◌≡◌, ℕ, ◌<◌, ◌≤◌, List}
use Rattle.text_edits.specs.Files.{PlainFile}
use Rattle.program_occurrences.specs.Classes.{PlainFileToken}
use Rattle.reference_classes.specs.Renamed.{IsWrittenAt}

-- a token of the text of one of the files
pub record IsTokenOf (files : List PlainFile) (token : PlainFileToken) : Type 0 where
  pub name : List ℕ
  pub written : IsWrittenAt files token name

-- the token of the file with this number whose span holds the byte at an offset
pub record HoldsByte (files : List PlainFile) (number at : ℕ) (token : PlainFileToken) : Type 0 where
  pub is_token : IsTokenOf files token
  pub file_is : token.file ≡ number
  pub from : token.span.start ≤ at
  pub to : at < token.span.end
