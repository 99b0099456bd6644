use Rattle.tree_pairs.proofs.Units.{units_declare_no_number_lem}
use Rattle.tree_pairs.proofs.units_declare_no_number.Goals as goal

pub returns : goal.returns
returns c = units_declare_no_number_lem
