use Rattle.std.specs.Prelude.{Bool, ◌&&◌, map, codes, nat_lt}
use Rattle.c_text.specs.Token.{PlainToken, plain_token}
use Rattle.c_text.specs.Directives.{is_spelled}
use Rattle.c_text.specs.Macros as spec
use Rattle.plain_macros.specs.PlainItems.{plain_item, item_token}
use Rattle.plain_macros.specs.declared.calls.Call.{Call}

unfoldable pub plain_call : Call → spec.Call
plain_call call = record {
  name = item_token call.name;
  params = map (λ n. n.items) call.params.now;
  body = map plain_token call.body.now;
  arguments = map (λ argument. map plain_item argument.items) call.arguments.items;
  last = map plain_item call.last.items;
  nested = call.nested;
}

-- the parenthesis that ends a call
abbrev pub closes : spec.Call → PlainToken → Bool
closes call token = is_spelled (codes ")") token && nat_lt call.nested 2
