use Rattle.std.proofs.Common.{take}
use Rattle.toml.specs.View.{items_view}
use Rattle.project_file.specs.Contents.{AreUnitValues}
use Rattle.project_file.specs.View.{unit_texts_view}
use Rattle.project_file.proofs.shape.units_of.Given as goal

abbrev pub invariant-loop-value : goal.invariant-loop-value
invariant-loop-value l = AreUnitValues l.project (items_view (take l.value-index l.values)) (unit_texts_view l.units)
