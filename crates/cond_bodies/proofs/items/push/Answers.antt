use Rattle.std.proofs.Common.{[], ◌∷◌}
use Rattle.cond_formula.specs.Conditions.{condition_of, value}
use Rattle.cond_bodies.specs.CondItems.{item_at, items_at}
use Rattle.cond_bodies.proofs.ItemLemmas.{seen_pushed, never_pushed}
use Rattle.cond_bodies.proofs.items.push.Goals as goal

pub returns-then-is_never : goal.returns-then-is_never
returns-then-is_never c = λ on.
    never_pushed (value on (condition_of c.args.when)) (items_at on c.args.list.now.items) (item_at on c.args.what ∷ []) (c.is_never.ensures c.if-is_never.true on)

pub returns : goal.returns
returns c = λ on. seen_pushed (item_at on) on _ _ _ c.in_ok-push.ensures.items
