use Rattle.std.proofs.Common.{◌≡◌, ℕ, Bool, ◌||◌, drop}
use Rattle.cond_formula.specs.Conditions.{condition_of, conditions_of, value, any_true}
use Rattle.cond_expressions.proofs.conditions.any_of.Given as goal

abbrev pub invariant-loop-part : goal.invariant-loop-part
invariant-loop-part l = (on : ℕ → Bool) →
    (value on (condition_of l.any) || any_true on (conditions_of (drop l.part-index l.parts))) ≡ any_true on (conditions_of l.parts)
