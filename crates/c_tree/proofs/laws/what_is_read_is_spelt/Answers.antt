use Rattle.c_tree.proofs.Sound.{read_is_spelt}
use Rattle.c_tree.proofs.laws.what_is_read_is_spelt.Goals as goal

pub returns : goal.returns
returns c = read_is_spelt
