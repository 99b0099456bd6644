use Rattle.std.proofs.Common.{◌≡◌, ℕ, Bool, ◌&&◌, drop}
use Rattle.cond_formula.specs.Conditions.{condition_of, conditions_of, value, all_true}
use Rattle.cond_expressions.proofs.conditions.all_of.Given as goal

abbrev pub invariant-loop-part : goal.invariant-loop-part
invariant-loop-part l = (on : ℕ → Bool) →
    (value on (condition_of l.all) && all_true on (conditions_of (drop l.part-index l.parts))) ≡ all_true on (conditions_of l.parts)
