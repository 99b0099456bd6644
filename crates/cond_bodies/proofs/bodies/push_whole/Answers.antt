use Rattle.std.proofs.Common.{Bool, [], ◌∷◌, ◌++◌, sym, ap, ◌∙◌}
use Rattle.cond_formula.specs.Conditions.{value}
use Rattle.cond_formula.specs.ConditionLaws.{condition_of-True}
use Rattle.conditional.specs.Entries.{under}
use Rattle.cond_bodies.specs.Slots.{slot_at, slots_at}
use Rattle.cond_bodies.proofs.ItemLemmas.{seen_pushed}
use Rattle.cond_bodies.proofs.bodies.push_whole.Goals as goal

pub returns-in_ok-push : goal.returns-in_ok-push
returns-in_ok-push c = λ on k.
    seen_pushed (slot_at on) on _ _ _ c.in_ok-push.ensures.items
    ∙ ap (λ (b : Bool). slots_at on c.args.all.now.items ++ under b (slot_at on c.args.entry.what ∷ []))
    (ap (value on) condition_of-True ∙ sym (ap (value on) (c.is_same.ensures c.if-is_same.true) ∙ k))

pub returns-in_ok-push-2 : goal.returns-in_ok-push-2
returns-in_ok-push-2 c = λ on k. seen_pushed (slot_at on) on _ _ _ c.in_ok-push-2.ensures.items
