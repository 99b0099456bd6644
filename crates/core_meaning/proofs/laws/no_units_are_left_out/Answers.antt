use Rattle.core_meaning.proofs.FirstFaults.{no_units_are_left_out}
use Rattle.core_meaning.proofs.laws.no_units_are_left_out.Goals as goal

pub returns : goal.returns
returns c = no_units_are_left_out
