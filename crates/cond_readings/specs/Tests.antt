-- `defined` tests in the tokens of an expression.
use Rattle.std.specs.Prelude.{ℕ, Bool, List, ◌++◌, Option, Some, None}
use Rattle.c_text.specs.Token.{PlainToken}
use Rattle.c_text.specs.Macros.{Table}
use Rattle.c_text.specs.Preprocessing as spec
use Rattle.cond_tokens.specs.Streams.{tokens_at}
use Rattle.cond_readings.specs.declared.tests.Tested.{Tested}

-- tokens before others, if there are any
abbrev pub with_front : List PlainToken → Option (List PlainToken) → Option (List PlainToken)
with_front tokens None = None
with_front tokens (Some others) = Some (tokens ++ others)

-- the tokens so far with those that become of the rest
abbrev pub tested_with : (ℕ → Bool) → Table → Tested → List PlainToken → Option (List PlainToken)
tested_with on table t rest = with_front (tokens_at on t.tokens.items) (spec.tests_replaced table t.more rest)
