use Rattle.std.proofs.Common.{◌≡◌, ℕ, Bool, ◌++◌, drop}
use Rattle.cond_runs.specs.CondArguments.{lists_at}
use Rattle.cond_runs.proofs.arguments.copied_lists.Given as goal

abbrev pub invariant-loop-list : goal.invariant-loop-list
invariant-loop-list l = (on : ℕ → Bool) → lists_at on l.copies.items ++ lists_at on (drop l.list-index l.lists) ≡ lists_at on l.lists
