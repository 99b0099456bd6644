-- What cells hold, by their parts.
use Rattle.std.proofs.Common.{◌≡◌, map}
use Rattle.core_cells.specs.declared.cells.Cells.{Cells}
use Rattle.core_cells.specs.declared.cells.Cells.TheOpen.{Cells-F}
use Rattle.core_cells.specs.declared.cells.Cells.TheViews.{out-Cells, roll-Cells}
use Rattle.core_cells.specs.declared.cells.Cells.TheFolds.{fold-roll-Cells, fold_out-Cells}
use Rattle.core_cells.specs.Forms.{Inner, node_cells, cells_level, inner_cells}

pub inner_cells_roll : (x : Cells-F Cells) → inner_cells (roll-Cells x) ≡ node_cells x.held (map inner_cells x.parts.items) x.rest
unfolding inner_cells
inner_cells_roll = fold-roll-Cells Inner cells_level

pub inner_cells_out : (c : Cells) → inner_cells c ≡ node_cells (out-Cells c).held (map inner_cells (out-Cells c).parts.items) (out-Cells c).rest
unfolding inner_cells
inner_cells_out = fold_out-Cells Inner cells_level
