use Rattle.std.proofs.Common.{◌≡◌, ℕ, Bool, not, ◌&&◌, drop, IsTrue}
use Rattle.cond_formula.specs.Conditions.{condition_of, value}
use Rattle.choice_trees.specs.ChoiceTrees.{plain_branches}
use Rattle.exclusive_forests.specs.Apart.{any_holds}
use Rattle.exclusive_forests.proofs.exclusions.alone.Given as goal

abbrev pub invariant-loop-other : goal.invariant-loop-other
invariant-loop-other l = record {
  within : (on : ℕ → Bool) → IsTrue (value on (condition_of l.alone)) → IsTrue (value on (condition_of l.fn.when));
  alone :
      (on : ℕ → Bool) → (value on (condition_of l.alone) && not (any_holds on (plain_branches (drop l.other-index l.others))))
      ≡ (value on (condition_of l.fn.when) && not (any_holds on (plain_branches l.others)));
}
