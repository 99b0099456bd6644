use Rattle.quick_core.proofs.Numbers.{runs_agree_lem}
use Rattle.quick_core.proofs.runs_agree.Goals as goal

pub returns : goal.returns
returns c = runs_agree_lem c.program_is_of_items.ensures c.numbers_are_read.ensures
