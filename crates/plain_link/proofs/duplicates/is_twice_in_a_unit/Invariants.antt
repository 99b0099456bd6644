use Rattle.std.proofs.Common.{◌≡◌, ◌-◌, [], drop, map}
use Rattle.std.specs.Prelude.{nat_le}
use Rattle.std.specs.List.{list_any}
use Rattle.core_meaning.specs.Linking as spec
use Rattle.plain_link.specs.PlainUnits.{plain_unit}
use Rattle.plain_link.proofs.duplicates.is_twice_in_a_unit.Given as goal

abbrev pub invariant-loop-unit : goal.invariant-loop-unit
invariant-loop-unit l =
    list_any (λ unit. nat_le 2 (spec.count_in_unit unit l.name)) (map (plain_unit 0) (drop l.unit-index l.units))
    ≡ list_any (λ unit. nat_le 2 (spec.count_in_unit unit l.name)) (map (plain_unit 0) l.units)
