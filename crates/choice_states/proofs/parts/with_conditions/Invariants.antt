use Rattle.std.proofs.Common.{◌≡◌, ℕ, Bool, ◌||◌, drop}
use Rattle.cond_formula.specs.Conditions.{condition_of, value}
use Rattle.choice_trees.specs.ChoiceTrees.{plain_branches}
use Rattle.choice_states.specs.Seen.{branch_seen}
use Rattle.choice_states.specs.Parts.{is_there}
use Rattle.choice_states.proofs.parts.with_conditions.Given as goal

abbrev pub invariant-loop-when : goal.invariant-loop-when
invariant-loop-when l =
    (on : ℕ → Bool) → (value on (condition_of l.all) || is_there (branch_seen on (plain_branches (drop l.when-index l.branches))))
    ≡ (value on (condition_of l.fn.some) || is_there (branch_seen on (plain_branches l.branches)))
