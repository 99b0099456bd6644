use Rattle.std.proofs.Common.{ap, ◌∙◌}
use Rattle.cond_formula.specs.Conditions.{conditions_of, all_true}
use Rattle.choice_states.specs.Seen.{parts_seen}
use Rattle.choice_states.proofs.PartLists.{seen_alike}
use Rattle.choice_states.proofs.copies.parts_where.Goals as goal

pub returns : goal.returns
returns c = λ on holds.
    seen_alike on c.in_ok-kept.kept.items c.in_ok-copies.copies.items
    (c.in_ok-kept.ensures on (ap (λ fs. all_true on (conditions_of fs)) c.deref.ensures.value ∙ c.in_ok-known.ensures on ∙ holds))
    ∙ ap (parts_seen on) c.in_ok-copies.ensures
