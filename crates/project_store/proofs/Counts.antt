-- Counts of faults along a run of calls.
use Rattle.std.proofs.Common.{ℕ, ◌≤◌, arith, ◌∙◌}
use Rattle.project_store.specs.Faults.{Rose, HasCause}

-- a count that rose and didn't fall after that
pub Rose-later : (before now later : ℕ) → Rose before now → now ≤ later → Rose before later
Rose-later before now later rose le = omega arith

-- a count that didn't fall and then rose
pub Rose-earlier : (earlier before now : ℕ) → earlier ≤ before → Rose before now → Rose earlier now
Rose-earlier earlier before now le rose = omega arith

-- a fault in the second of two calls has its cause in both together, where there was none in the first
pub HasCause-then : {P Q : Type 0} (exact : Type 0) (before between after : ℕ) → HasCause exact before between P → (P → ⊥) → HasCause exact between after Q → HasCause exact before after Q
HasCause-then {P} {Q} exact before between after first none second = record {
  kept = omega (arith, first.kept, second.kept);
  rose = λ (q : Q). Rose-earlier before between after first.kept (second.rose q);
  stood = λ e n. second.stood e n ∙ first.stood e none;
}
