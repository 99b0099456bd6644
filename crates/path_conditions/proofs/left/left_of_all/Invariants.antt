use Rattle.std.proofs.Common.{◌≡◌, ℕ, Bool, ◌&&◌, drop, IsTrue}
use Rattle.cond_formula.specs.Conditions.{condition_of, conditions_of, value, all_true}
use Rattle.path_conditions.proofs.left.left_of_all.Given as goal

abbrev pub invariant-loop-part : goal.invariant-loop-part
invariant-loop-part l =
    (on : ℕ → Bool) → IsTrue (all_true on (conditions_of l.path))
    → (value on (condition_of l.left) && all_true on (conditions_of (drop l.part-index l.parts))) ≡ all_true on (conditions_of l.parts)
