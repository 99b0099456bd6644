use Rattle.std.proofs.Common.{◌≡◌, List, [], ◌∷◌, ◌++◌, map, Option, Bor, Vec, Global, sym, ap, ◌∙◌}
use Rattle.std.specs.Option.{option_map}
use Rattle.c_text.specs.Macros as spec
use Rattle.cond_formula.specs.Conditions.{condition_of, value}
use Rattle.conditional.specs.declared.entries.Guarded.{Guarded}
use Rattle.cond_bodies.specs.declared.item.Item.{Item}
use Rattle.conditional.specs.Entries.{under}
use Rattle.cond_bodies.specs.Cores.{cores}
use Rattle.cond_bodies.specs.CondItems.{items_at}
use Rattle.cond_bodies.specs.Slots.{slot_at, slot_items, or_items}
use Rattle.cond_bodies.proofs.SlotLemmas.{part_pushed}
use Rattle.cond_bodies.proofs.bodies.push_part.Goals as goal

pub returns-in_ok-push_under-in-Some : goal.returns-in_ok-push_under-in-Some
unfolding slot_at
returns-in_ok-push_under-in-Some c = λ on.
    let slot = slot_at on c.args.slot.now in
    let given : slot_items (map (λ a. items_at on a.items) c.args.arguments.now) slot ≡ items_at on c.in-Some.argument.now.items =
    c.argument_of.ensures on slot.token ∙ ap (λ (o : Option (Bor (Vec (Guarded Item) Global))). or_items (spec.fresh slot.token ∷ []) (option_map (λ a. items_at on a.now.items) o)) c.in-Some.is in
    part_pushed (value on (condition_of c.args.when.now)) (items_at on c.args.items.now.items) (items_at on c.push_under.new.list.items) (items_at on c.as_slice.result.now) (slot_items (map (λ a. items_at on a.items) c.args.arguments.now) slot)
    (c.in_ok-push_under-in-Some.ensures on)
    (ap (λ (l : List (Guarded Item)). items_at on l) c.as_slice.ensures.value ∙ sym given)

pub returns-in_ok-push_own_item-in-None : goal.returns-in_ok-push_own_item-in-None
unfolding slot_at
returns-in_ok-push_own_item-in-None c = λ on.
    let slot = slot_at on c.args.slot.now in
    let given : slot_items (map (λ a. items_at on a.items) c.args.arguments.now) slot ≡ spec.fresh slot.token ∷ [] =
    c.argument_of.ensures on slot.token ∙ ap (λ (o : Option (Bor (Vec (Guarded Item) Global))). or_items (spec.fresh slot.token ∷ []) (option_map (λ a. items_at on a.now.items) o)) c.in-None.is in
    c.in_ok-push_own_item-in-None.ensures on
    ∙ ap (λ (l : List spec.Item). cores (items_at on c.args.items.now.items) ++ under (value on (condition_of c.args.when.now)) (cores l)) (sym given)
