use Rattle.std.proofs.Common.{◌≡◌, ℕ, Bool, [], ◌∷◌, drop}
use Rattle.conditional.specs.Entries.{entries_of, seen}
use Rattle.cond_bodies.specs.CondMeanings.{PlainFunction, plain_function}
use Rattle.cond_bodies.specs.Slots.{slots_at}
use Rattle.cond_bodies.proofs.SlotLemmas.{Joining}
use Rattle.cond_bodies.proofs.bodies.bodies_joined.Given as goal

abbrev pub invariant-loop-function : goal.invariant-loop-function
invariant-loop-function l = (on : ℕ → Bool) (f : PlainFunction) → seen on (entries_of plain_function l.functions) ≡ f ∷ [] →
    Joining (seen on (entries_of plain_function (drop l.function-index l.functions))) (slots_at on l.slots.items) f
