use Rattle.std.proofs.Common.{◌≡◌, ℕ, Bool, ◌&&◌, drop}
use Rattle.cond_formula.specs.Conditions.{condition_of, conditions_of, value, all_true}
use Rattle.path_conditions.proofs.left.conjoined.Given as goal

abbrev pub invariant-loop-place : goal.invariant-loop-place
invariant-loop-place l =
    (on : ℕ → Bool) → (value on (condition_of l.all) && all_true on (conditions_of (drop l.place l.path))) ≡ all_true on (conditions_of l.path)
