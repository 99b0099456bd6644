-- Why a configuration is refused, and at which file token (ISO/IEC 9899:2011, 6.10; the kinds are this project's own).
use Rattle.std.specs.Prelude.{if◌then◌else◌, ℕ, Bool, true, false, ◌&&◌, nat_lt, List, [], ◌∷◌, Option, Some, None}
use Rattle.text_edits.specs.Span.{PlainSpan}
use Rattle.c_text.specs.declared.token.BadKind.{BadKind}
use Rattle.c_text.specs.declared.token.BadKind.TheVariants.{OpenComment}
use Rattle.c_text.specs.declared.token.TokenKind.{TokenKind}
use Rattle.c_text.specs.declared.token.TokenKind.TheVariants.{Bad}
use Rattle.c_text.specs.Token.{PlainToken}
use Rattle.c_text.specs.Directives.{is_word, is_predefined}

-- why a configuration is refused
pub data Kind : Type 0 where
  bad_token : BadKind → Kind
  unbalanced : Kind
  bad_directive : Kind
  bad_expression : Kind
  no_file : Kind
  include_depth : Kind
  bad_macro : Kind
  bad_call_kind : Kind
  error_directive : Kind
  predefined : Kind

-- a refusal, and the file token at which it stands
pub record Refusal : Type 0 where
  pub kind : Kind
  pub file : ℕ
  pub span : PlainSpan

abbrev pub refusal_at : Kind → PlainToken → Refusal
refusal_at kind token = record { kind = kind; file = token.origin.file; span = token.origin.span }

abbrev pub bad_kind : TokenKind → Option BadKind
bad_kind (Bad kind) = Some kind
bad_kind other = None

abbrev pub is_open_comment : TokenKind → Bool
is_open_comment (Bad OpenComment) = true
is_open_comment other = false

abbrev pub by_bad : PlainToken → Option BadKind → Option Refusal
by_bad token (Some kind) = Some (refusal_at (bad_token kind) token)
by_bad token None = if is_word token && is_predefined token then Some (refusal_at predefined token) else None

abbrev pub or_else : Option Refusal → Option Refusal → Option Refusal
or_else None later = later
or_else (Some first) later = Some first

-- the first active token that refuses
abbrev pub refused_token : List PlainToken → Option Refusal
refused_token [] = None
refused_token (token ∷ rest) = or_else (by_bad token (bad_kind token.kind)) (refused_token rest)

-- the same among tokens that are ignored: only a comment that isn't closed
abbrev pub refused_ignored : List PlainToken → Option Refusal
refused_ignored [] = None
refused_ignored (token ∷ rest) =
    if is_open_comment token.kind then Some (refusal_at (bad_token OpenComment) token) else refused_ignored rest

-- the earlier of two refusals in one file
abbrev pub earlier : Option Refusal → Refusal → Refusal
earlier None other = other
earlier (Some one) other = if nat_lt one.span.start other.span.start then one else other
