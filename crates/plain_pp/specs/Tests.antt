-- `defined` tests in the tokens of an expression.
use Rattle.std.specs.Prelude.{List, ◌++◌, map, Option, Some, None}
use Rattle.c_text.specs.Token.{PlainToken, plain_token}
use Rattle.c_text.specs.Macros.{Table}
use Rattle.c_text.specs.Preprocessing as spec
use Rattle.plain_pp.specs.declared.defined.Tested.{Tested}

-- tokens before others, if there are any
abbrev pub with_tokens : List PlainToken → Option (List PlainToken) → Option (List PlainToken)
with_tokens tokens None = None
with_tokens tokens (Some others) = Some (tokens ++ others)

-- the tokens so far with those that become of the rest
abbrev pub tested_with : Table → Tested → List PlainToken → Option (List PlainToken)
tested_with table t rest = with_tokens (map plain_token t.tokens.items) (spec.tests_replaced table t.more rest)
