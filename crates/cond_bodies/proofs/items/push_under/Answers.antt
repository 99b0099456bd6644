use Rattle.std.proofs.Common.{◌++◌, arith}
use Rattle.cond_formula.specs.Conditions.{condition_of, value}
use Rattle.conditional.specs.Entries.{under}
use Rattle.cond_bodies.specs.CondItems.{item_at, items_at}
use Rattle.cond_bodies.proofs.ItemLemmas.{under_rest}
use Rattle.cond_bodies.proofs.items.push_under.Goals as goal

pub returns : goal.returns
returns c = λ on.
    let k = value on (condition_of c.args.when.now) in
    under_rest (item_at on) on k c.args.items.now c.loop-entry.entry-index (items_at on c.loop-entry.list.items) (items_at on c.args.list.now.items ++ under k (items_at on c.args.items.now)) (omega arith) (c.loop-entry.invariant on)
