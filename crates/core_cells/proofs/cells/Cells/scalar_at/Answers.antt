use Rattle.std.proofs.Common.{[], ap, ◌∙◌}
use Rattle.core_cells.specs.Forms.{inner_cells, plain_steps}
use Rattle.core_cells.specs.PathLaws.{scalar_below}
use Rattle.core_cells.proofs.cells.Cells.scalar_at.Goals as goal

pub returns : goal.returns
returns c = c.in_ok-scalar.ensures ∙ ap (λ f. f []) c.at.ensures ∙ scalar_below (plain_steps c.args.path.now) (inner_cells c.args.self.now)
