use Rattle.feature_model.specs.ModelView.{admitted}
use Rattle.verdict_query.proofs.Refuted.{never_more}
use Rattle.verdict_query.proofs.oracles.ModelOracle.add.Goals as goal

pub invariant_of-self-2 : goal.invariant_of-self-2
invariant_of-self-2 c = rw c.in_ok-push.ensures.items (never_more (admitted c.self.inside.model.now) c.self.inside.refuted.items c.args.f c.self.invariant (rw c.self.view_is c.requires))
