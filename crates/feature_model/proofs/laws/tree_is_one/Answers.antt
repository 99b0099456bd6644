use Rattle.feature_model.proofs.Uniqueness.{tree_is_one}
use Rattle.feature_model.proofs.laws.tree_is_one.Goals as goal

pub returns : goal.returns
returns c = tree_is_one
