use Rattle.std.proofs.Common.{◌≡◌, true, List, map, ap, ◌∙◌}
use Rattle.std.specs.List.{flat_map}
use Rattle.conditional.specs.declared.entries.Guarded.{Guarded}
use Rattle.cond_formula.specs.Conditions.{condition_of, value}
use Rattle.cond_bodies.specs.declared.slot.Slot.{Slot}
use Rattle.cond_bodies.specs.Cores.{cores}
use Rattle.cond_bodies.specs.CondItems.{items_at}
use Rattle.cond_bodies.specs.CondMeanings.{PlainFunction, plain_function}
use Rattle.cond_bodies.specs.Slots.{PlainSlot, slots_at, slot_items}
use Rattle.cond_bodies.proofs.LevelLemmas.{is_some_list, holds_is_seen}
use Rattle.cond_bodies.proofs.SlotLemmas.{slots_substituted}
use Rattle.cond_bodies.proofs.bodies.joined_body.Goals as goal

pub returns : goal.returns
returns c = λ on f e.
    let arguments = map (λ a. items_at on a.items) c.args.arguments.now in
    let holds : value on (condition_of c.in_ok-some.some) ≡ true = c.in_ok-some.ensures on ∙ holds_is_seen plain_function on c.args.functions.now ∙ ap (λ (l : List PlainFunction). is_some_list l) e in
    c.in_ok-items.ensures on
    ∙ ap (λ (l : List PlainSlot). cores (flat_map (slot_items arguments) l))
    (ap (λ (l : List (Guarded Slot)). slots_at on l) c.as_slice.ensures.value ∙ c.in_ok-slots-2.ensures on holds ∙ c.in_ok-slots.ensures on f e)
    ∙ ap cores (slots_substituted f.params arguments f.body)
