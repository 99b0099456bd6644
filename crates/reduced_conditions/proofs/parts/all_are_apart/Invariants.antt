use Rattle.std.proofs.Common.{◌≡◌, ℕ, Bool, ◌&&◌, drop}
use Rattle.cond_formula.specs.Conditions.{condition_of, conditions_of, value, any_true}
use Rattle.reduced_conditions.proofs.parts.all_are_apart.Given as goal

abbrev pub invariant-loop-part : goal.invariant-loop-part
invariant-loop-part l = (on : ℕ → Bool) → (any_true on (conditions_of l.parts) && value on (condition_of l.f)) ≡ (any_true on (conditions_of (drop l.part-index l.parts)) && value on (condition_of l.f))
