use Rattle.std.proofs.Common.{◌∙◌}
use Rattle.feature_model.proofs.Chains.{chained-viewed}
use Rattle.feature_model.proofs.reader.whole.Goals as goal

pub returns-clause-value : goal.returns-clause-value
returns-clause-value c = λ features on.
    c.in_ok-formula.ensures.value on ∙ chained-viewed _ _ (c.in_ok-all.ensures.value features on)
