use Rattle.std.proofs.Common.{◌≡◌, ◌≤◌, length}
use Rattle.core_cells.specs.Forms.{plain_cells}
use Rattle.run_start.specs.Starts.{cells_behind}
use Rattle.run_start.proofs.globals.first_cells.Given as goal

abbrev pub invariant-loop-left : goal.invariant-loop-left
invariant-loop-left l = record {
  within : l.left ≤ length l.global.parts.items;
  held : plain_cells l.cells ≡ cells_behind l.program l.global l.left;
}

abbrev pub decreases-loop-left : goal.decreases-loop-left
decreases-loop-left l = l.left
