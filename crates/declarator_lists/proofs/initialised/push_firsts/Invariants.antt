use Rattle.std.proofs.Common.{ℕ, Bool}
use Rattle.conditional.specs.Entries.{first, seen}
use Rattle.declarator_lists.specs.Entries.{head_at, all_initialised_at}
use Rattle.declarator_lists.proofs.Pushing.{SoFar}
use Rattle.declarator_lists.proofs.initialised.push_firsts.Given as goal

abbrev pub invariant-loop-value : goal.invariant-loop-value
invariant-loop-value l =
    (on : ℕ → Bool) → SoFar on (head_at on) first l.values (seen on (all_initialised_at on l.fn.all.items)) l.value-index (seen on (all_initialised_at on l.all.items))
