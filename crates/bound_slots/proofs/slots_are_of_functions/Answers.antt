use Rattle.bound_slots.proofs.Units.{slots_are_of_functions}
use Rattle.bound_slots.proofs.slots_are_of_functions.Goals as goal

pub returns : goal.returns
returns c = slots_are_of_functions
