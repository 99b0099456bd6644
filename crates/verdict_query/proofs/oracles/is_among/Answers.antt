use Rattle.cond_formula.specs.Conditions.{Condition}
use Rattle.sat_core.specs.Models.{HasNoModel}
use Rattle.std.proofs.Common.{subst}
use Rattle.verdict_query.specs.Verdicts.{where_admitted}
use Rattle.verdict_query.proofs.Refuted.{never_at}
use Rattle.verdict_query.proofs.oracles.is_among.Goals as goal

pub returns-then-is_same : goal.returns-then-is_same
returns-then-is_same c =
    λ t admitted never.
    subst (λ (condition : Condition). HasNoModel (where_admitted admitted condition)) (c.is_same.ensures c.if-is_same.true)
    (never_at admitted c.args.formulas.now c.loop-formula.formula-index c.formula-item.result c.loop-formula-test.true c.formula-item.is never)
