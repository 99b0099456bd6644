use Rattle.feature_model.specs.ModelView.{admitted}
use Rattle.verdict_query.proofs.Refuted.{never_none}
use Rattle.verdict_query.proofs.oracles.ModelOracle.new.Goals as goal

pub invariant_of-result : goal.invariant_of-result
invariant_of-result c = never_none (admitted c.args.model.now) c.new.result.items c.new.ensures.items
