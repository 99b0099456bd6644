use Rattle.std.proofs.Common.{map, arith}
use Rattle.std.specs.List.{flat_map}
use Rattle.cond_bodies.specs.Cores.{cores}
use Rattle.cond_bodies.specs.CondItems.{items_at}
use Rattle.cond_bodies.specs.Slots.{slot_at, slots_at, slot_items}
use Rattle.cond_bodies.proofs.SlotLemmas.{part_step, part_end}
use Rattle.cond_bodies.proofs.bodies.slots_substituted.Goals as goal

pub loop-entry-preserved : goal.loop-entry-preserved
loop-entry-preserved c = λ on.
    let g = slot_items (map (λ a. items_at on a.items) c.args.arguments.now) in
    part_step (slot_at on) on g c.args.slots.now c.entry-item.result c.loop-entry.entry-index (cores (items_at on c.loop-entry.items.items)) (cores (items_at on c.push_part.new.items.items)) (cores (flat_map g (slots_at on c.args.slots.now)))
    c.loop-entry-test.true c.entry-item.is (c.loop-entry.invariant on) (c.in_ok-push_part.ensures on)

pub returns : goal.returns
returns c = λ on.
    let g = slot_items (map (λ a. items_at on a.items) c.args.arguments.now) in
    part_end (slot_at on) on g c.args.slots.now c.loop-entry.entry-index (cores (items_at on c.loop-entry.items.items)) (cores (flat_map g (slots_at on c.args.slots.now))) (omega arith) (c.loop-entry.invariant on)
