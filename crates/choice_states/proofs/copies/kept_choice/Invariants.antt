use Rattle.std.proofs.Common.{◌≡◌, ℕ, Bool, IsTrue}
use Rattle.cond_formula.specs.Conditions.{conditions_of, all_true}
use Rattle.choice_trees.specs.ChoiceTrees.{plain_branches}
use Rattle.choice_states.specs.Seen.{branch_seen}
use Rattle.choice_states.proofs.copies.kept_choice.Given as goal

abbrev pub invariant-loop-when : goal.invariant-loop-when
invariant-loop-when l =
    (on : ℕ → Bool) → IsTrue (all_true on (conditions_of l.known)) → branch_seen on (plain_branches l.branches.items) ≡ branch_seen on (plain_branches l.yielded)
