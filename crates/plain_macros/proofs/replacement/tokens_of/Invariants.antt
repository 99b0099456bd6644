use Rattle.std.proofs.Common.{◌≡◌, map, take}
use Rattle.c_text.specs.Token.{plain_token}
use Rattle.plain_macros.specs.PlainItems.{plain_item}
use Rattle.plain_macros.proofs.replacement.tokens_of.Given as goal

abbrev pub invariant-loop-item : goal.invariant-loop-item
invariant-loop-item l =
    map plain_token l.tokens.items ≡ map (λ item. item.token) (map plain_item (take l.item-index l.items))
