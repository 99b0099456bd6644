use Rattle.conditional.proofs.JudgementLaws.{nothing_shown}
use Rattle.conditional.proofs.outcomes.Outcomes.nothing.Goals as goal

pub returns : goal.returns
returns g c = λ on v. nothing_shown g.T.Plain.form g.R.Plain.form on v _ (c.nothing.ensures on) (c.empty.ensures on)
