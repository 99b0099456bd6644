use Rattle.std.proofs.Common.{◌≡◌, map, take}
use Rattle.c_text.specs.Macros as spec
use Rattle.plain_macros.specs.PlainItems.{plain_item, item_token}
use Rattle.plain_macros.proofs.lists.brought_items.Given as goal

abbrev pub invariant-loop-item : goal.invariant-loop-item
invariant-loop-item l =
    map plain_item l.brought.items
    ≡ map (spec.brought (item_token l.first) (item_token l.last)) (map plain_item (take l.item-index l.items))
