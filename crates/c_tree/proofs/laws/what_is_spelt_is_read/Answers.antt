use Rattle.c_tree.proofs.ReadAsItself.{spelt_is_read}
use Rattle.c_tree.proofs.laws.what_is_spelt_is_read.Goals as goal

pub returns : goal.returns
returns c = spelt_is_read
