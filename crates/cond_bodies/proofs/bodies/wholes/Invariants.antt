use Rattle.std.proofs.Common.{◌≡◌, ℕ, Bool, true}
use Rattle.cond_formula.specs.Conditions.{condition_of, value}
use Rattle.cond_bodies.specs.Slots.{slots_at}
use Rattle.cond_bodies.proofs.bodies.wholes.Given as goal

abbrev pub invariant-loop-slot : goal.invariant-loop-slot
invariant-loop-slot l = (on : ℕ → Bool) → value on (condition_of l.some) ≡ true → slots_at on l.whole.items ≡ slots_at on l.yielded
