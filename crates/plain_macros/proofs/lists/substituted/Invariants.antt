use Rattle.std.proofs.Common.{◌≡◌, map, take}
use Rattle.c_text.specs.Token.{plain_token}
use Rattle.c_text.specs.Macros as spec
use Rattle.plain_macros.specs.PlainItems.{plain_item}
use Rattle.plain_macros.proofs.lists.substituted.Given as goal

abbrev pub invariant-loop-token : goal.invariant-loop-token
invariant-loop-token l =
    map plain_item l.items.items
    ≡ spec.substituted (map (λ n. n.items) l.params) (map (λ v. map plain_item v.items) l.arguments) (map plain_token (take l.token-index l.body))
