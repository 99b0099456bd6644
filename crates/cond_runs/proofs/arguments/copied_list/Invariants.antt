use Rattle.std.proofs.Common.{◌≡◌, ℕ, Bool, ◌++◌, drop}
use Rattle.cond_bodies.specs.CondItems.{items_at}
use Rattle.cond_runs.proofs.arguments.copied_list.Given as goal

abbrev pub invariant-loop-entry : goal.invariant-loop-entry
invariant-loop-entry l = (on : ℕ → Bool) → items_at on l.copies.items ++ items_at on (drop l.entry-index l.items) ≡ items_at on l.items
