use Rattle.feature_model.proofs.Uniqueness.{tokens_are_one}
use Rattle.feature_model.proofs.laws.tokens_are_one.Goals as goal

pub returns : goal.returns
returns c = tokens_are_one
