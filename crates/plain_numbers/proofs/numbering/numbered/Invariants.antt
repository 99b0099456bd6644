use Rattle.std.proofs.Common.{map, take}
use Rattle.plain_link.specs.PlainUnits.{plain_unit}
use Rattle.plain_numbers.specs.Numbering.{AreNumbered}
use Rattle.plain_numbers.proofs.numbering.numbered.Given as goal

abbrev pub invariant-loop-index : goal.invariant-loop-index
invariant-loop-index l = AreNumbered (map (plain_unit 0) l.units) 0 l.all.items (map (plain_unit 0) (take l.index l.units))
