use Rattle.std.proofs.Common.{◌≡◌, ℕ, Bool, replicate}
use Rattle.cond_initialisers.specs.Rows.{numbers}
use Rattle.cond_initialisers.proofs.places.repeated.Given as goal

abbrev pub invariant-loop : goal.invariant-loop
invariant-loop l = (on : ℕ → Bool) → numbers on l.parts.items ≡ replicate l.counter 0
