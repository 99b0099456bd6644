use Rattle.std.proofs.Common.{not, ap, ◌∙◌}
use Rattle.cond_formula.specs.Conditions.{conditions_of, all_true}
use Rattle.choice_states.proofs.PartLists.{seen_alike}
use Rattle.choice_states.proofs.copies.parts_elsewhere.Goals as goal

pub returns : goal.returns
returns c = λ on fails.
    seen_alike on c.in_ok-kept.kept.items c.args.parts.items
    (c.in_ok-kept.ensures on (ap (λ fs. all_true on (conditions_of fs)) c.deref.ensures.value ∙ c.in_ok-known.ensures on ∙ ap not fails))
