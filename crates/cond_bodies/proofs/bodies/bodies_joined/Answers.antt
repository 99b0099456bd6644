use Rattle.std.proofs.Common.{◌≡◌, List, ap, ◌∙◌, if◌then◌else◌, arith}
use Rattle.cond_formula.specs.Conditions.{condition_of, value}
use Rattle.conditional.specs.declared.entries.Guarded.{Guarded}
use Rattle.conditional.specs.Entries.{entries_of, seen}
use Rattle.cond_bodies.specs.declared.slot.Slot.{Slot}
use Rattle.cond_bodies.specs.CondMeanings.{plain_function}
use Rattle.cond_bodies.specs.Slots.{PlainSlot, slots_at, slots_of}
use Rattle.cond_bodies.proofs.SlotLemmas.{joining_init, joining_empty, joining_step, joining_end}
use Rattle.cond_bodies.proofs.bodies.bodies_joined.Goals as goal

pub loop-function-init : goal.loop-function-init
loop-function-init c = λ on f e.
    joining_init (seen on (entries_of plain_function c.args.functions.now)) (slots_at on c.new-slots.result.items) f (ap (λ (l : List (Guarded Slot)). slots_at on l) c.new-slots.ensures.items) e

pub loop-function-preserved : goal.loop-function-preserved
loop-function-preserved c = λ on f e.
    let x = c.function-item.result in
    let so_far = slots_at on c.loop-function.slots.items in
    let same : slots_at on c.as_slice.result.now ≡ so_far = ap (λ (l : List (Guarded Slot)). slots_at on l) c.as_slice.ensures.value in
    let before = c.loop-function.invariant on f e in
    joining_step on c.args.functions.now x c.loop-function.function-index c.loop-function-test.true c.function-item.is so_far (slots_at on c.in_ok-slots.slots.items) f before
    (c.in_ok-slots.ensures on (λ t. same ∙ joining_empty on c.args.functions.now x c.loop-function.function-index c.loop-function-test.true c.function-item.is so_far f before t)
    ∙ ap (λ (l : List PlainSlot). if value on (condition_of x.when) then slots_of (plain_function x.what) else l) same)

pub returns : goal.returns
returns c = λ on f e.
    joining_end on c.args.functions.now c.loop-function.function-index (slots_at on c.loop-function.slots.items) f (omega arith) (c.loop-function.invariant on f e)
