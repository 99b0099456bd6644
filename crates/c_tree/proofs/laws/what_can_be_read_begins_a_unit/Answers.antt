use Rattle.c_tree.proofs.Fronts.{fronts_begin}
use Rattle.c_tree.proofs.laws.what_can_be_read_begins_a_unit.Goals as goal

pub returns : goal.returns
returns c = fronts_begin
