use Rattle.std.proofs.Common.{rules, Some, not, ap, sym, ◌∙◌}
use Rattle.std.proofs.lemmas.Option.{slice_get-get_or}
use Rattle.cond_formula.specs.Conditions.{condition_of, value}
use Rattle.conditional.proofs.ValueLaws.{stands_elsewhere}
use Rattle.conditional.proofs.condensing.stand_elsewhere.Goals as goal

pub returns : goal.returns
returns g c = λ on v none stands.
    stands_elsewhere g.T.Plain.form on v c.remove.result (record { when = c.in_ok-elsewhere.elsewhere; what = c.without_condition-what.result })
    (value on (condition_of c.in_ok-others.others)) (value on (condition_of c.in_ok-refused.refused)) _ _ c.args.i
    (slice_get-get_or c.args.alternatives.now.items c.args.i c.remove.result (search (rules, c.requires)) ∙ ap Some (sym c.remove.ensures.value))
    c.without_condition-what.ensures (search (rules, c.in_ok-others.ensures on)) (c.in_ok-elsewhere.ensures.holds on ∙ ap not (c.in_ok-or.ensures.holds on)) (c.in_ok-refused.ensures on ∙ none) (search rules) stands
