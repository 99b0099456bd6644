use Rattle.c_tree.proofs.ReadAsItself.{spelt_is_read}
use Rattle.c_tree.proofs.Fronts.{trees_are_one}
use Rattle.c_tree.proofs.laws.tokens_spell_one_unit.Goals as goal

pub returns : goal.returns
returns c = trees_are_one spelt_is_read
