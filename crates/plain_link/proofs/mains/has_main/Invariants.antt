use Rattle.std.proofs.Common.{◌≡◌, ◌-◌, [], drop, map}
use Rattle.std.specs.List.{list_any}
use Rattle.core_meaning.specs.Linking as spec
use Rattle.plain_link.specs.PlainUnits.{plain_unit}
use Rattle.plain_link.proofs.mains.has_main.Given as goal

abbrev pub invariant-loop-unit : goal.invariant-loop-unit
invariant-loop-unit l =
    list_any spec.defines_main (map (plain_unit 0) (drop l.unit-index l.units)) ≡ list_any spec.defines_main (map (plain_unit 0) l.units)
