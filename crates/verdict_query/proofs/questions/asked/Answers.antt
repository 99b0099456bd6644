use Rattle.std.proofs.Common.{subst}
use Rattle.cond_formula.specs.Conditions.{Condition, condition_of}
use Rattle.feature_model.specs.ModelView.{admitted}
use Rattle.sat_core.specs.Answers.{IsAnswer}
use Rattle.verdict_query.proofs.questions.asked.Goals as goal

pub returns : goal.returns
returns c =
    c.verdict_of-verdict.ensures (admitted c.args.model.now) (condition_of c.args.when.now) (subst (λ (condition : Condition). IsAnswer 128 condition c.solve.result) c.in_ok-both.ensures c.solve.ensures)
