use Rattle.std.proofs.Common.{take, map, string_bytes}
use Rattle.project_file.specs.Projects.{AreUnits}
use Rattle.project_file.specs.View.{unit_text_view, unit_view}
use Rattle.project_file.proofs.units.units_of.Given as goal

abbrev pub invariant-loop-index : goal.invariant-loop-index
invariant-loop-index l =
    AreUnits (map string_bytes l.features) (map unit_text_view (take l.index l.texts)) (map unit_view l.units.items)
