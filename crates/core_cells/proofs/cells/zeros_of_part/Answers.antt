use Rattle.core_cells.proofs.CellLemmas.{no_zeros_without_type}
use Rattle.core_cells.proofs.cells.zeros_of_part.Goals as goal

pub returns-in-None : goal.returns-in-None
returns-in-None c = no_zeros_without_type _ _ _ c.in-None.ensures
