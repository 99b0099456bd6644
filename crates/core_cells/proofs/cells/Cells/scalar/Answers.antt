use Rattle.std.proofs.Common.{[], ap, sym, ◌∙◌}
use Rattle.core_cells.specs.CellLaws.{inner_cells_out}
use Rattle.core_cells.proofs.cells.Cells.scalar.Goals as goal

pub returns : goal.returns
returns c = c.in_ok-scalar.ensures ∙ sym (ap (λ f. f []) (inner_cells_out c.args.self.now))
