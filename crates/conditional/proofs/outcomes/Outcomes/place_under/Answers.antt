use Rattle.cond_formula.specs.Conditions.{condition_of}
use Rattle.conditional.proofs.JudgementLaws.{judged_under}
use Rattle.conditional.proofs.outcomes.Outcomes.place_under.Goals as goal

pub returns : goal.returns
returns g c = λ on.
    judged_under g.T.Plain.form g.R.Plain.form on (condition_of c.args.when.now) c.args.other.now c.args.self.now _ (c.in_ok-place_under.ensures on) (c.in_ok-append_under.ensures on)
