use Rattle.std.proofs.Common.{◌≡◌, ℕ, Bool, true, ◌++◌, drop}
use Rattle.cond_formula.specs.Conditions.{condition_of, value}
use Rattle.forest_heights.specs.Levels.{values}
use Rattle.forest_heights.proofs.Telling.{grown}
use Rattle.forest_heights.proofs.levels.one_more.Given as goal

abbrev pub invariant-loop-level : goal.invariant-loop-level
invariant-loop-level l =
    (on : ℕ → Bool) → values on l.longer.items ++ grown (value on (condition_of l.below)) (value on (condition_of l.when)) (values on (drop l.level-index l.levels))
    ≡ grown true (value on (condition_of l.when)) (values on l.levels)
