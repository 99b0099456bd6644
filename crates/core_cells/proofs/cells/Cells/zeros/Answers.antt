use Rattle.std.proofs.Common.{refl}
use Rattle.core_cells.proofs.CellLemmas.{zeros_cells}
use Rattle.core_cells.proofs.cells.Cells.zeros.Goals as goal

pub returns : goal.returns
returns c = zeros_cells _ c.args.zeros c.new.ensures.items refl c.zero.ensures
