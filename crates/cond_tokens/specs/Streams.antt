-- Tokens under conditions, and what is seen of them where `on` says which features are on.
use Rattle.std.specs.Prelude.{ℕ, Bool, List, map, Option, Some, None, if◌then◌else◌}
use Rattle.cond_formula.specs.Conditions.{condition_of, value}
use Rattle.c_text.specs.Token.{PlainToken, plain_token}
use Rattle.conditional.specs.Entries.{Entry, seen}
use Rattle.cond_tokens.specs.declared.tokens.CondToken.{CondToken}
use Rattle.cond_tokens.specs.declared.tokens.CondStream.{CondStream}

abbrev pub plain_entry : CondToken → Entry PlainToken
plain_entry entry = record { when = condition_of entry.when; what = plain_token entry.token }

-- the tokens that are present, in order
abbrev pub tokens_at : (ℕ → Bool) → List CondToken → List PlainToken
tokens_at on tokens = seen on (map plain_entry tokens)

-- what a unit gives: nothing where it is refused, else the tokens that are present
abbrev pub stream_at : (ℕ → Bool) → CondStream → Option (List PlainToken)
stream_at on stream = if value on (condition_of stream.refused) then None else Some (tokens_at on stream.tokens.items)
