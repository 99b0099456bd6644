use Rattle.std.proofs.Common.{◌≡◌, map, drop}
use Rattle.std.specs.List.{list_any}
use Rattle.c_text.specs.Token.{plain_token}
use Rattle.c_text.specs.Directives.{is_barred}
use Rattle.macro_table.proofs.barred.has_barred_token.Given as goal

abbrev pub invariant-loop-token : goal.invariant-loop-token
invariant-loop-token l =
    list_any is_barred (map plain_token (drop l.token-index l.tokens)) ≡ list_any is_barred (map plain_token l.tokens)
