use Rattle.feature_model.specs.ModelView.{admitted}
use Rattle.verdict_query.proofs.Refuted.{never_none}
use Rattle.verdict_query.proofs.oracles.ModelOracle.forget.Goals as goal

pub invariant_of-self : goal.invariant_of-self
invariant_of-self c = never_none (admitted c.self.inside.model.now) c.clear.new.self.items c.clear.ensures.items
