use Rattle.std.proofs.Common.{◌∙◌}
use Rattle.core_cells.specs.Forms.{inner_cells, plain_steps}
use Rattle.core_cells.specs.PathLaws.{cells_below}
use Rattle.core_cells.proofs.cells.Cells.copy_at.Goals as goal

pub returns : goal.returns
returns c = cells_below (plain_steps c.args.path.now) (inner_cells c.args.self.now) (inner_cells c.in_ok-cells.cells) (c.in_ok-cells.ensures ∙ c.at.ensures)
