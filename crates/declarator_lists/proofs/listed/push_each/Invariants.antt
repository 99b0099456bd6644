use Rattle.std.proofs.Common.{ℕ, Bool}
use Rattle.conditional.specs.Entries.{seen}
use Rattle.choice_trees.specs.ChoiceTrees.{plain_item, item_at}
use Rattle.declarator_lists.specs.Lists.{declared}
use Rattle.declarator_lists.specs.Entries.{initialised_at, listed_at}
use Rattle.declarator_lists.proofs.Pushing.{SoFar}
use Rattle.declarator_lists.proofs.listed.push_each.Given as goal

abbrev pub invariant-loop-one : goal.invariant-loop-one
invariant-loop-one l =
    (on : ℕ → Bool) → SoFar on (initialised_at on) (declared (item_at on (plain_item l.declarator))) l.initialised (seen on (listed_at on l.fn.all.items)) l.one-index (seen on (listed_at on l.all.items))
