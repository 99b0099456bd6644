use Rattle.std.proofs.Common.{◌≡◌, map, take}
use Rattle.c_text.specs.Token.{plain_token}
use Rattle.c_text.specs.Macros as spec
use Rattle.plain_macros.specs.PlainItems.{plain_item}
use Rattle.plain_macros.proofs.lists.outermost_items.Given as goal

abbrev pub invariant-loop-token : goal.invariant-loop-token
invariant-loop-token l =
    map plain_item l.items.items ≡ map spec.fresh (map (λ t. plain_token t.now) (take l.token-index l.tokens))
