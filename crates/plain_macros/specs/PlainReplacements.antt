use Rattle.std.specs.Prelude.{List, map}
use Rattle.c_text.specs.Token.{PlainToken, plain_token}
use Rattle.c_text.specs.Macros as spec
use Rattle.c_text.specs.Macros.{fine, bad_call}
use Rattle.plain_macros.specs.declared.replacement.Replacement.{Replacement}
use Rattle.plain_macros.specs.declared.replacement.Replacement.TheVariants.{Tokens, BadCall}

-- what a caller sees of a replacement: the tokens, or the name of the call that is refused
pub data Outcome : Type 0 where
  tokens : List PlainToken → Outcome
  refused : PlainToken → Outcome

abbrev pub outcome : spec.Replaced → Outcome
outcome (fine items) = tokens (map (λ item. item.token) items)
outcome (bad_call name) = refused name

abbrev pub plain_replacement : Replacement → Outcome
plain_replacement (Tokens list) = tokens (map plain_token list.items)
plain_replacement (BadCall name) = refused (plain_token name)
