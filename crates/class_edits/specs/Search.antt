-- What a search for the token that holds a byte finds.
use Rattle.std.specs.Prelude.{◌≡◌, ℕ, ◌<◌, ◌≤◌, List, Contains}
use Rattle.text_edits.specs.Files.{PlainFile}
use Rattle.c_text.specs.Token.{PlainToken}
use Rattle.c_text.specs.Lines.{PlainLine}
use Rattle.program_occurrences.specs.Classes.{PlainFileToken}
use Rattle.tied_tokens.specs.Tokens.{plain_file_token}
use Rattle.reference_classes.specs.Renamed.{IsWrittenAt}
use Rattle.class_edits.specs.declared.places.NamedToken.{NamedToken}

-- one of the tokens, which holds the byte at an offset
pub record HoldsAmong (tokens : List PlainToken) (at : ℕ) (token : PlainToken) : Type 0 where
  pub among : Contains tokens token
  pub from : token.origin.span.start ≤ at
  pub to : at < token.origin.span.end

-- one of a line's
pub record HoldsInLines (lines : List PlainLine) (at : ℕ) (token : PlainToken) : Type 0 where
  pub line : PlainLine
  pub among : Contains lines line
  pub within : HoldsAmong line.tokens at token

-- a token of a file and the name that is written there
pub record PlainNamedToken : Type 0 where
  pub token : PlainFileToken
  pub name : List ℕ

abbrev pub plain_named_token : NamedToken → PlainNamedToken
plain_named_token t = record { token = plain_file_token t.token; name = t.name.items }

-- The name is written there, and the token holds the byte at an offset of the file with this number.
pub record IsNamedAt (files : List PlainFile) (number at : ℕ) (found : PlainNamedToken) : Type 0 where
  pub written : IsWrittenAt files found.token found.name
  pub file_is : found.token.file ≡ number
  pub from : found.token.span.start ≤ at
  pub to : at < found.token.span.end
