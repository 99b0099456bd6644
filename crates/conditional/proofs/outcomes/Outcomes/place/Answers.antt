use Rattle.std.proofs.Common.{refl}
use Rattle.cond_formula.specs.Conditions.{condition_of}
use Rattle.conditional.proofs.JudgementLaws.{judged_fine, judged_refused}
use Rattle.conditional.proofs.outcomes.Outcomes.place.Goals as goal

pub returns-in_ok-place-in-Ok : goal.returns-in_ok-place-in-Ok
returns-in_ok-place-in-Ok g c = λ on. rw c.in-Ok.is (judged_fine g.T.Plain.form g.R.Plain.form on (g.T.Plain.form c.in-Ok.value) (condition_of c.args.when) c.args.self.now _ (c.in_ok-place-in-Ok.ensures on) refl)

pub returns-in_ok-push-in-Err : goal.returns-in_ok-push-in-Err
returns-in_ok-push-in-Err g c = λ on. rw c.in-Err.is (judged_refused g.T.Plain.form g.R.Plain.form on (g.R.Plain.form c.in-Err.why) (condition_of c.args.when) c.args.self.now _ refl (c.in_ok-push-in-Err.ensures on))
