use Rattle.std.proofs.Common.{length}
use Rattle.core_cells.proofs.cells.+held_at.Given as goal

abbrev pub decreases-held_at : goal.decreases-held_at
decreases-held_at l = length l.path.now
