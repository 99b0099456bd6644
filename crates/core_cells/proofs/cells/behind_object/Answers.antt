use Rattle.std.proofs.Common.{ap, sym, ◌∙◌}
use Rattle.core_meaning.specs.Values as plain
use Rattle.core_cells.specs.CellForms.{held_cells, behind_step}
use Rattle.core_cells.proofs.CellLemmas.{cells_behind}
use Rattle.core_cells.proofs.cells.behind_object.Goals as goal

pub returns-in-Cells : goal.returns-in-Cells
returns-in-Cells c = cells_behind c.in-Cells.field-0.now ∙ ap (λ h. behind_step plain.behind (held_cells h)) (sym c.in-Cells.is)
