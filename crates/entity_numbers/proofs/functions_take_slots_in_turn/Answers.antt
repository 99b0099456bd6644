use Rattle.entity_numbers.proofs.Functions.{functions_take_slots_in_turn}
use Rattle.entity_numbers.proofs.functions_take_slots_in_turn.Goals as goal

pub returns : goal.returns
returns c = functions_take_slots_in_turn
