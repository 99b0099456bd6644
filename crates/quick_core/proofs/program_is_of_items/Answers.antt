use Rattle.quick_core.proofs.Numbers.{program_is_of_items_lem}
use Rattle.quick_core.proofs.program_is_of_items.Goals as goal

pub returns : goal.returns
returns c = program_is_of_items_lem
