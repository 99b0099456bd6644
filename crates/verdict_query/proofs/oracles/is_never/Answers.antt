use Rattle.std.proofs.Common.{subst}
use Rattle.cond_formula.specs.Conditions.{Condition, condition_of}
use Rattle.feature_model.specs.ModelView.{admitted}
use Rattle.verdict_query.proofs.Refuted.{never_anywhere}
use Rattle.sat_core.specs.Models.{HasNoModel}
use Rattle.verdict_query.proofs.oracles.is_never.Goals as goal

pub returns-in-Ok : goal.returns-in-Ok
returns-in-Ok c = λ refuted. subst (λ (condition : Condition). HasNoModel condition) c.in-Ok.ensures (c.is_refuted.ensures refuted)

pub returns-then-is_never : goal.returns-then-is_never
returns-then-is_never c = λ _. never_anywhere (admitted c.args.model.now) (condition_of c.args.f.now) (c.is_never.ensures c.if-is_never.true)
