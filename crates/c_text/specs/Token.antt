use Rattle.std.specs.Prelude.{◌≡◌, ℕ, Bool, List}
use Rattle.text_edits.specs.Span.{PlainSpan, plain_span}
use Rattle.c_text.specs.declared.origin.Origin.{Origin}
use Rattle.c_text.specs.declared.origin.Place.{Place}
use Rattle.c_text.specs.declared.token.Token.{Token}
use Rattle.c_text.specs.declared.token.TokenKind.{TokenKind}

-- where a token comes from: the token that it copies, and the outermost macro call that brings it
pub record PlainOrigin : Type 0 where
  pub file : ℕ
  pub span : PlainSpan
  pub place : Place
  pub site : PlainSpan
  pub site_file : ℕ

-- a token as definitions write it: its kind, its bytes, whether it follows the token before it at
-- once, and where it comes from
pub record PlainToken : Type 0 where
  pub kind : TokenKind
  pub text : List ℕ
  pub joined : Bool
  pub origin : PlainOrigin

-- an origin with its spans as pairs of offsets
abbrev pub plain_origin : Origin → PlainOrigin
plain_origin o = record {
  file = o.file;
  span = plain_span o.span;
  place = o.place;
  site = plain_span o.site;
  site_file = o.site_file;
}

-- a token with its bytes as a list
abbrev pub plain_token : Token → PlainToken
plain_token t = record {
  kind = t.kind;
  text = t.text.items;
  joined = t.joined;
  origin = plain_origin t.origin;
}

-- the tokens are of one kind and have the same bytes
pub record SameSpelling (a b : PlainToken) : Type 0 where
  pub kind : a.kind ≡ b.kind
  pub text : a.text ≡ b.text
