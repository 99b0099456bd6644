use Rattle.std.proofs.Common.{length}
use Rattle.core_cells.proofs.parts.+is_inside.Given as goal

abbrev pub decreases-is_inside : goal.decreases-is_inside
decreases-is_inside l = length l.path.now
