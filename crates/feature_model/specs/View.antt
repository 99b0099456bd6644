-- What this crate's types hold, as lists.
use Rattle.std.specs.Prelude.{List, map, Vec}
use Rattle.std.specs.declared.alloc.Global.{Global}
use Rattle.feature_model.specs.Tokens as spec
use Rattle.feature_model.specs.Bytes as bytes
use Rattle.feature_model.specs.declared.tokens.Token.{Token}
use Rattle.feature_model.specs.declared.tokens.Token.TheVariants.{Name, Sign}
use Rattle.feature_model.specs.declared.lexer.Begun.{Begun}
use Rattle.feature_model.specs.declared.lexer.Begun.TheVariants.{Nothing, Word, Front}
use Rattle.feature_model.specs.declared.lexer.Lexer.{Lexer}

abbrev pub token_view : Token → spec.Token
token_view (Name word) = spec.Name word.items
token_view (Sign sign) = spec.Mark sign

abbrev pub tokens_view : Vec Token Global → List spec.Token
tokens_view tokens = map token_view tokens.items

abbrev pub begun_view : Begun → bytes.Begun
begun_view Nothing = bytes.in_blank
begun_view (Word word) = bytes.in_word word.items
begun_view (Front part) = bytes.in_sign part

abbrev pub lexer_view : Lexer → bytes.Lexing
lexer_view lexer = record { tokens = tokens_view lexer.tokens; begun = begun_view lexer.begun }
