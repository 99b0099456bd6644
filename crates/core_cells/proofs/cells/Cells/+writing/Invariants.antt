use Rattle.std.proofs.Common.{◌+◌, ◌*◌, length}
use Rattle.core_cells.proofs.cells.Cells.+writing.Given as goal

abbrev pub decreases-written : goal.decreases-written
decreases-written l = 2 * length l.path.now

abbrev pub decreases-part_written : goal.decreases-part_written
decreases-part_written l = 2 * length l.inner.now + 1
