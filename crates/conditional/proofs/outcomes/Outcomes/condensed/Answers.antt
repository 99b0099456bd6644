use Rattle.std.proofs.Common.{refl}
use Rattle.conditional.proofs.JudgementLaws.{condensed_shows}
use Rattle.conditional.proofs.outcomes.Outcomes.condensed.Goals as goal

pub returns : goal.returns
returns g c = λ on v shown.
    condensed_shows g.T.Plain.form g.R.Plain.form on c.args.self (record { fine = record { alternatives = c.stand_elsewhere.new.alternatives }; refused = c.args.self.refused }) refl
    (λ w none stands. c.in_ok-stand_elsewhere.ensures on w (rw c.deref-2.ensures.value none) stands) v shown
