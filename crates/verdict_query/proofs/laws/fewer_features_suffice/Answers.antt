use Rattle.verdict_query.proofs.FewerFeatures.{fewer_features}
use Rattle.verdict_query.proofs.laws.fewer_features_suffice.Goals as goal

pub returns : goal.returns
returns c = fewer_features
