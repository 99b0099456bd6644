-- What tokens of one item have in common.
use Rattle.std.specs.Prelude.{ℕ, List}
use Rattle.c_text.specs.declared.token.TokenKind.{TokenKind}
use Rattle.c_text.specs.Token.{PlainToken}

pub record Spelling : Type 0 where
  pub kind : TokenKind
  pub text : List ℕ

abbrev pub spelling : PlainToken → Spelling
spelling token = record { kind = token.kind; text = token.text }
