use Rattle.std.proofs.Common.{ap, sym, ◌∙◌}
use Rattle.core_meaning.specs.Values as plain
use Rattle.core_cells.specs.CellForms.{held_cells, behind_step}
use Rattle.core_cells.proofs.cells.part_of.Goals as goal

pub returns-in-Rest : goal.returns-in-Rest
returns-in-Rest c = c.rest_of_part.ensures ∙ ap (λ h. behind_step (plain.part c.args.number) (held_cells h)) (sym c.in-Rest.is)
