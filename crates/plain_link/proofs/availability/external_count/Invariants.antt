use Rattle.std.proofs.Common.{◌≡◌, ◌+◌, ◌-◌, ◌≤◌, ◌^◌, [], min, drop, map}
use Rattle.core_meaning.specs.Linking as spec
use Rattle.plain_link.specs.PlainUnits.{plain_unit}
use Rattle.plain_link.proofs.availability.external_count.Given as goal

abbrev pub invariant-loop-unit : goal.invariant-loop-unit
invariant-loop-unit l =
    (l.count ≤ 2 ^ 64 - 1) × (min (l.count + spec.count_external (map (plain_unit 0) (drop l.unit-index l.units)) l.name) (2 ^ 64 - 1)
    ≡ min (spec.count_external (map (plain_unit 0) l.units) l.name) (2 ^ 64 - 1))
