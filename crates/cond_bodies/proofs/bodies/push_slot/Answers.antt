use Rattle.std.proofs.Common.{[], ◌∷◌, ◌++◌, ap, ◌∙◌}
use Rattle.cond_formula.specs.Conditions.{Condition, value}
use Rattle.conditional.specs.Entries.{under}
use Rattle.cond_bodies.specs.Slots.{slot_at, slots_at}
use Rattle.cond_bodies.proofs.ItemLemmas.{seen_pushed}
use Rattle.cond_bodies.proofs.bodies.push_slot.Goals as goal

pub returns : goal.returns
returns c = λ on.
    seen_pushed (slot_at on) on _ _ _ c.in_ok-push.ensures.items
    ∙ ap (λ (d : Condition). slots_at on c.args.all.now.items ++ under (value on d) (slot_at on c.args.what ∷ [])) c.in_ok-when.ensures
