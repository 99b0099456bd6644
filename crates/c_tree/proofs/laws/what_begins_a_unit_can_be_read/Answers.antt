use Rattle.c_tree.proofs.ReadAsItself.{spelt_is_read}
use Rattle.c_tree.proofs.Fronts.{fronts_are_read}
use Rattle.c_tree.proofs.laws.what_begins_a_unit_can_be_read.Goals as goal

pub returns : goal.returns
returns c = fronts_are_read spelt_is_read
