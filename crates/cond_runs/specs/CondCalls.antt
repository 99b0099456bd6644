-- What is seen of calls under conditions.
use Rattle.std.specs.Prelude.{ℕ, Bool, ◌&&◌, List, map, codes, nat_lt}
use Rattle.c_text.specs.Token.{PlainToken, plain_token}
use Rattle.c_text.specs.Directives.{is_spelled}
use Rattle.c_text.specs.Macros as spec
use Rattle.cond_formula.specs.Conditions.{condition_of}
use Rattle.conditional.specs.Entries.{Entry, entries_of, seen}
use Rattle.cond_bodies.specs.CondItems.{item_at, items_at}
use Rattle.cond_bodies.specs.CondMeanings.{PlainFunction, plain_function}
use Rattle.cond_runs.specs.Functions.{or_function}
use Rattle.cond_runs.specs.CondArguments.{lists_at}
use Rattle.cond_runs.specs.Pieces.{Held}
use Rattle.cond_runs.specs.declared.calls.Call.{Call}

abbrev pub function_at : (ℕ → Bool) → Call → PlainFunction
function_at on call = or_function (seen on (entries_of plain_function call.functions.items))

-- the call of a configuration
unfoldable pub call_at : (ℕ → Bool) → Call → spec.Call
call_at on call = record {
  name = (item_at on call.name).token;
  params = (function_at on call).params;
  body = (function_at on call).body;
  arguments = lists_at on call.arguments.items;
  last = items_at on call.last.items;
  nested = call.nested;
}

-- the parenthesis that ends a call
abbrev pub closes : spec.Call → PlainToken → Bool
closes call token = is_spelled (codes ")") token && nat_lt call.nested 2

abbrev pub held_at : (ℕ → Bool) → Call → Held
held_at on call = record { call = call_at on call; first = plain_token call.name.token.now }

abbrev pub call_entry : (ℕ → Bool) → Call → Entry Held
call_entry on call = record { when = condition_of call.when; what = held_at on call }

-- the calls that are open in a configuration
abbrev pub calls_at : (ℕ → Bool) → List Call → List Held
calls_at on calls = seen on (map (call_entry on) calls)
