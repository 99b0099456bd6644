use Rattle.std.proofs.Common.{◌≡◌, ℕ, Bool, ◌++◌, drop}
use Rattle.cond_formula.specs.Conditions.{condition_of, value}
use Rattle.conditional.specs.Entries.{under}
use Rattle.cond_bodies.specs.CondItems.{items_at}
use Rattle.cond_bodies.proofs.items.push_under.Given as goal

abbrev pub invariant-loop-entry : goal.invariant-loop-entry
invariant-loop-entry l = (on : ℕ → Bool) →
    items_at on l.list.items ++ under (value on (condition_of l.when)) (items_at on (drop l.entry-index l.items))
    ≡ items_at on l.fn.list.items ++ under (value on (condition_of l.when)) (items_at on l.items)
