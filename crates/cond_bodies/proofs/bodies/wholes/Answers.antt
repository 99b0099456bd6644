use Rattle.std.proofs.Common.{[], ◌∷◌, ◌++◌, List, refl, sym, ap, ◌∙◌}
use Rattle.cond_formula.specs.Conditions.{condition_of, value}
use Rattle.conditional.specs.Entries.{under}
use Rattle.cond_bodies.specs.Slots.{PlainSlot, slot_at}
use Rattle.cond_bodies.proofs.ItemLemmas.{seen_pushed}
use Rattle.cond_bodies.proofs.bodies.wholes.Goals as goal

pub loop-slot-preserved : goal.loop-slot-preserved
loop-slot-preserved c = λ on holds.
    c.in_ok-push_whole.ensures on holds
    ∙ ap (λ (l : List PlainSlot). l ++ under (value on (condition_of c.in-Some.slot.when)) (slot_at on c.in-Some.slot.what ∷ [])) (c.loop-slot.invariant on holds)
    ∙ sym (seen_pushed (slot_at on) on c.loop-slot.yielded (c.loop-slot.yielded ++ c.in-Some.slot ∷ []) c.in-Some.slot refl)
