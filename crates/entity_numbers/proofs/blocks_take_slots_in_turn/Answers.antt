use Rattle.entity_numbers.proofs.Blocks.{blocks_take_slots_in_turn}
use Rattle.entity_numbers.proofs.blocks_take_slots_in_turn.Goals as goal

pub returns : goal.returns
returns c = blocks_take_slots_in_turn
