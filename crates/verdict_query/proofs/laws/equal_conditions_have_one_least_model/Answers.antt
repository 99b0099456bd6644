use Rattle.verdict_query.proofs.FewerFeatures.{equal_conditions}
use Rattle.verdict_query.proofs.laws.equal_conditions_have_one_least_model.Goals as goal

pub returns : goal.returns
returns c = equal_conditions
