use Rattle.std.proofs.Common.{◌≡◌, map, take}
use Rattle.core_cells.specs.Forms.{inner_cells}
use Rattle.core_cells.proofs.cells.Cells.+copy.Given as goal

abbrev pub invariant-loop-part : goal.invariant-loop-part
invariant-loop-part l = map inner_cells l.parts.items ≡ map inner_cells (take l.part-index l.part-items)
