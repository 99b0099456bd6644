use Rattle.std.proofs.Common.{◌≡◌, take}
use Rattle.sat_core.specs.Numbering.{long_clause}
use Rattle.sat_core.proofs.translation.long_clause.Given as goal

abbrev pub invariant-loop-part : goal.invariant-loop-part
invariant-loop-part l = l.clause.items ≡ long_clause l.positive l.variable (take l.part-index l.parts)
