use Rattle.quick_rename.proofs.Decided.{taking_is_decided_lem}
use Rattle.quick_rename.proofs.taking_is_decided.Goals as goal

pub returns : goal.returns
returns c = taking_is_decided_lem c.refused_is_unwritten.ensures c.complete_is_written.ensures c.one_reading.ensures
