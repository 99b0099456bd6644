use Rattle.std.proofs.Common.{not, ap, ◌∙◌}
use Rattle.cond_formula.specs.Conditions.{Condition, condition_of, value}
use Rattle.conditional.proofs.JudgementLaws.{judgement_chosen}
use Rattle.conditional.proofs.outcomes.Outcomes.choose.Goals as goal

pub returns : goal.returns
returns g c = λ on p q sp sq.
    judgement_chosen g.T.Plain.form g.R.Plain.form on (condition_of c.args.when.now) (condition_of c.in_ok-elsewhere.elsewhere) c.args.chosen.now c.args.otherwise.now c.nothing-choice.result _ _
    (c.in_ok-elsewhere.ensures.holds on ∙ ap (λ (k : Condition). not (value on k)) c.in_ok-try_clone.ensures) (c.nothing-choice.ensures on) (c.in_ok-place_under.ensures on) (c.in_ok-place_under-2.ensures on) p q sp sq
