use Rattle.std.proofs.Common.{[], ◌∷◌, ◌++◌, ap, ◌∙◌}
use Rattle.cond_formula.specs.Conditions.{Condition, value}
use Rattle.cond_formula.specs.ConditionLaws.{condition_of-True}
use Rattle.conditional.specs.Entries.{under}
use Rattle.cond_bodies.specs.CondItems.{item_at, items_at}
use Rattle.cond_bodies.proofs.ItemLemmas.{seen_pushed}
use Rattle.cond_runs.proofs.calls.append.Goals as goal

pub returns : goal.returns
returns c = λ on.
    seen_pushed (item_at on) on _ _ _ c.in_ok-push.ensures.items
    ∙ ap (λ (d : Condition). items_at on c.args.list.now.items ++ under (value on d) (item_at on c.args.what ∷ [])) condition_of-True
