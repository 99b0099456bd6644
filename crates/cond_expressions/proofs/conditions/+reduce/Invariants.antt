use Rattle.std.proofs.Common.{◌≡◌, ℕ, Bool, ◌&&◌, ◌||◌, IsTrue, drop}
use Rattle.cond_formula.specs.Conditions.{condition_of, conditions_of, value, all_true, any_true}
use Rattle.cond_expressions.proofs.conditions.+reduce.Given as goal

abbrev pub invariant-all_reduced-loop-part : goal.invariant-all_reduced-loop-part
invariant-all_reduced-loop-part l = (on : ℕ → Bool) → IsTrue (all_true on (conditions_of l.facts)) →
    (value on (condition_of l.all) && all_true on (conditions_of (drop l.part-index l.parts))) ≡ all_true on (conditions_of l.parts)

abbrev pub invariant-any_reduced-loop-part : goal.invariant-any_reduced-loop-part
invariant-any_reduced-loop-part l = (on : ℕ → Bool) → IsTrue (all_true on (conditions_of l.facts)) →
    (value on (condition_of l.any) || any_true on (conditions_of (drop l.part-index l.parts))) ≡ any_true on (conditions_of l.parts)
