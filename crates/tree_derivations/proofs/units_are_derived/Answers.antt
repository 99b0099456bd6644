use Rattle.tree_derivations.proofs.Units.{units_are_derived_lem}
use Rattle.tree_derivations.proofs.units_are_derived.Goals as goal

pub returns : goal.returns
returns c = units_are_derived_lem
