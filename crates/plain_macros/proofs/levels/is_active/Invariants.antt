use Rattle.std.proofs.Common.{◌≡◌, map, drop}
use Rattle.c_text.specs.Macros as spec
use Rattle.plain_macros.specs.PlainItems.{item_token}
use Rattle.plain_macros.proofs.levels.is_active.Given as goal

abbrev pub invariant-loop-name : goal.invariant-loop-name
invariant-loop-name l =
    spec.is_named_in (map (λ name. (item_token name).text) (drop l.name-index l.active)) (item_token l.item)
    ≡ spec.is_named_in (map (λ name. (item_token name).text) l.active) (item_token l.item)
