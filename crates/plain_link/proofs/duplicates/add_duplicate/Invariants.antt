use Rattle.std.proofs.Common.{◌≡◌, ◌+◌, ◌-◌, ◌++◌, [], drop, map}
use Rattle.std.specs.Prelude.{filter}
use Rattle.core_meaning.specs.Linking as spec
use Rattle.plain_link.specs.PlainUnits.{plain_unit}
use Rattle.plain_link.specs.Faults.{duplicate_in}
use Rattle.plain_link.proofs.duplicates.add_duplicate.Given as goal

abbrev pub invariant-loop-d : goal.invariant-loop-d
invariant-loop-d l =
    map (λ name. name.now) l.found.items
    ++ filter (spec.is_duplicate (map (plain_unit 0) l.units)) (map (λ d. d.name.items) (drop l.d-index l.unit.defined.list.items))
    ≡ map (λ name. name.now) l.initial.found.items ++ duplicate_in l.units l.unit
