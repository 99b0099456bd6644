use Rattle.std.proofs.Common.{◌≡◌, ℕ, Bool}
use Rattle.choice_trees.specs.ChoiceTrees.{plain_branches}
use Rattle.choice_states.specs.Seen.{branch_seen, seen_in}
use Rattle.choice_states.specs.Parts.{first_of, values}
use Rattle.choice_states.proofs.parts.as_one.Given as goal

abbrev pub invariant-loop-part : goal.invariant-loop-part
invariant-loop-part l = (on : ℕ → Bool) → branch_seen on (plain_branches l.branches.items) ≡ first_of (values (seen_in on l.yielded))
