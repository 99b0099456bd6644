use Rattle.std.proofs.Common.{◌≡◌, ℕ, Bool, ◌++◌, drop}
use Rattle.cond_bodies.specs.Slots.{slots_at}
use Rattle.cond_bodies.proofs.bodies.push_slots.Given as goal

abbrev pub invariant-loop-entry : goal.invariant-loop-entry
invariant-loop-entry l = (on : ℕ → Bool) →
    slots_at on l.all.items ++ slots_at on (drop l.entry-index l.slots) ≡ slots_at on l.fn.all.items ++ slots_at on l.slots
