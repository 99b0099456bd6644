use Rattle.std.proofs.Common.{◌++◌, map, arith}
use Rattle.c_text.specs.Token.{plain_token}
use Rattle.c_text.specs.Macros as spec
use Rattle.cond_formula.specs.Conditions.{condition_of, value}
use Rattle.conditional.specs.Entries.{under}
use Rattle.cond_bodies.specs.CondItems.{item_at, items_at}
use Rattle.cond_bodies.proofs.ItemLemmas.{under_all}
use Rattle.cond_bodies.proofs.items.push_brought.Goals as goal

pub returns : goal.returns
returns c = λ on.
    let f = spec.brought (plain_token c.args.first.now) (plain_token c.args.last.now) in
    let k = value on (condition_of c.args.when.now) in
    under_all (item_at on) f on k c.args.items.now c.loop-entry.entry-index (items_at on c.loop-entry.list.items) (items_at on c.args.list.now.items ++ under k (map f (items_at on c.args.items.now)))
    (omega arith) (c.loop-entry.invariant on)
