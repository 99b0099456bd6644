use Rattle.std.proofs.Common.{◌≡◌, ℕ, Bool, None}
use Rattle.std.specs.Bool.{if◌then◌else◌}
use Rattle.cond_formula.specs.Conditions.{conditions_of, all_true}
use Rattle.choice_trees.specs.ChoiceTrees.{plain_branches}
use Rattle.choice_states.specs.Seen.{branch_seen}
use Rattle.choice_states.proofs.parts.restricted.Given as goal

abbrev pub invariant-loop-when : goal.invariant-loop-when
invariant-loop-when l =
    (on : ℕ → Bool) → branch_seen on (plain_branches l.branches.items)
    ≡ (if all_true on (conditions_of l.here) then branch_seen on (plain_branches l.yielded) else None)
