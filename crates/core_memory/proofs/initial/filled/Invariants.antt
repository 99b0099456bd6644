use Rattle.std.proofs.Common.{◌≡◌, map, take}
use Rattle.core_meaning.specs.Plain.{plain_part}
use Rattle.core_meaning.specs.Meaning.{cells_filled}
use Rattle.core_cells.specs.Forms.{plain_cells, zeros_of}
use Rattle.core_cells.specs.CellForms.{by_paths}
use Rattle.core_memory.proofs.initial.filled.Given as goal

abbrev pub invariant-loop-part : goal.invariant-loop-part
invariant-loop-part l = plain_cells l.cells ≡ cells_filled (map plain_part (take l.part-index l.parts)) (by_paths (zeros_of l.zeros)) (plain_cells l.held)
