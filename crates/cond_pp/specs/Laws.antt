-- LAWS, each the contract of a function of this crate.
use Rattle.std.specs.Prelude.{◌≡◌, ◌⊎◌, ℕ, Bool, false, All}
use Rattle.cond_formula.specs.Conditions.{condition_of, value}
use Rattle.c_text.specs.Token.{PlainToken}
use Rattle.c_text.specs.Preprocessing.{Sources, feature_token}
use Rattle.active_tokens.specs.Active.{IsActive}
use Rattle.cond_tokens.specs.declared.tokens.CondStream.{CondStream}
use Rattle.cond_tokens.specs.Streams.{tokens_at}
use Rattle.cond_pp.specs.Streams.{IsStreamAt}

-- the token of a feature that is on, or a copy of one that the unit makes active
abbrev pub ComesFromActive : Sources → ℕ → PlainToken → Type 0
ComesFromActive s number token =
    ((token.origin.file ≡ feature_token.origin.file) × (token.origin.span ≡ feature_token.origin.span))
    ⊎ IsActive s number token.origin.file token.origin.span

-- The tokens of a unit's stream that are present in a configuration come from active tokens.
abbrev pub StreamsComeFromActive : Type 0
StreamsComeFromActive =
    (on : ℕ → Bool) (s : Sources) (number : ℕ) (stream : CondStream) → IsStreamAt on s number stream
    → value on (condition_of stream.refused) ≡ false → All (ComesFromActive s number) (tokens_at on stream.tokens.items)
