use Rattle.moved_trees.proofs.Units.{units-stay}
use Rattle.moved_trees.proofs.units_stay_units.Goals as goal

pub returns : goal.returns
returns c = units-stay c.what_is_read_is_spelt.ensures c.what_is_spelt_is_read.ensures
