use Rattle.quick_core.proofs.Numbers.{numbers_are_read_lem}
use Rattle.quick_core.proofs.numbers_are_read.Goals as goal

pub returns : goal.returns
returns c = numbers_are_read_lem
