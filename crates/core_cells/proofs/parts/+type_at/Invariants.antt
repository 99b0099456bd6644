use Rattle.std.proofs.Common.{length}
use Rattle.core_cells.proofs.parts.+type_at.Given as goal

abbrev pub decreases-type_at : goal.decreases-type_at
decreases-type_at l = length l.path.now
