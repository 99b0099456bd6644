use Rattle.std.proofs.Common.{length}
use Rattle.core_cells.proofs.values.+is_same_path.Given as goal

abbrev pub decreases-is_same_path : goal.decreases-is_same_path
decreases-is_same_path l = length l.a.now
