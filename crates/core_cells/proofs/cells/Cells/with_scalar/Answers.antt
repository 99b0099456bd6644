use Rattle.std.proofs.Common.{refl}
use Rattle.core_cells.proofs.CellLemmas.{holding}
use Rattle.core_cells.proofs.cells.Cells.with_scalar.Goals as goal

pub returns : goal.returns
returns c = holding c.args.self _ c.args.scalar refl refl refl
