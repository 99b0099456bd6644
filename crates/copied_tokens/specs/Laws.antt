-- LAWS, each the contract of a function of this crate.
use Rattle.std.specs.Prelude.{◌≡◌, ℕ, List, All, Contains}
use Rattle.c_text.specs.declared.token.TokenKind.TheVariants.{Name}
use Rattle.c_text.specs.Token.{PlainToken}
use Rattle.c_text.specs.Lines.{PlainLine, AreItsLines}
use Rattle.c_text.specs.Preprocessing.{Sources, gives, IsPreprocessed}
use Rattle.active_tokens.specs.Active.{IsActive}
use Rattle.renamed_units.specs.Laws.{IsUnitOf}
use Rattle.copied_tokens.specs.Copies.{IsCopied, IsFromBodyIfPredefined}

-- Each token that a unit gives is a copy of one on a text line, or comes out of the body of a macro.
abbrev pub TokensAreCopied : Type 0
TokensAreCopied =
    (s : Sources) (number : ℕ) (tokens : List PlainToken) → IsUnitOf s number → IsPreprocessed s number (gives tokens) → All (IsCopied s) tokens

-- Each name that a unit gives stands where the unit reads a token.
abbrev pub NamesAreRead : Type 0
NamesAreRead =
    (s : Sources) (number : ℕ) (tokens : List PlainToken) → IsPreprocessed s number (gives tokens)
    → All (λ token. token.kind ≡ Name → IsActive s number token.origin.file token.origin.span) tokens

-- Two tokens of the lines of a file that stand at one place are one.
abbrev pub PlacesTellTokens : Type 0
PlacesTellTokens =
    (number : ℕ) (bytes : List ℕ) (lines : List PlainLine) (line other : PlainLine) (a b : PlainToken) → AreItsLines number bytes lines
    → Contains lines line → Contains line.tokens a → Contains lines other → Contains other.tokens b → a.origin.span ≡ b.origin.span → a ≡ b

-- The predefined names that a unit gives come out of the bodies of macros, since one that stands on a text line is refused.
abbrev pub PredefinedComeFromBodies : Type 0
PredefinedComeFromBodies =
    (s : Sources) (number : ℕ) (tokens : List PlainToken) → IsPreprocessed s number (gives tokens) → All IsFromBodyIfPredefined tokens
