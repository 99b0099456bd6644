use Rattle.std.proofs.Common.{refl}
use Rattle.core_cells.proofs.CellLemmas.{unwritten_cells}
use Rattle.core_cells.proofs.cells.Cells.unwritten.Goals as goal

pub returns : goal.returns
returns c = unwritten_cells _ refl c.new.ensures.items refl
