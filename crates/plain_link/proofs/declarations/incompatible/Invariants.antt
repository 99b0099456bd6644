use Rattle.std.proofs.Common.{List, [], drop, map, ℕ}
use Rattle.c_types.specs.Tags.{plain_tags}
use Rattle.plain_link.specs.PlainUnits.{plain_unit}
use Rattle.plain_link.specs.Faults.{IsApartAmong, Collects}
use Rattle.plain_link.proofs.declarations.incompatible.Given as goal

abbrev pub invariant-loop-unit : goal.invariant-loop-unit
invariant-loop-unit l = (last : List (List ℕ)) →
    Collects (IsApartAmong (plain_tags l.tags) (map (plain_unit 0) l.units) (map (plain_unit 0) (drop l.unit-index l.units))) (map (λ name. name.now) l.found.items) last →
    Collects (IsApartAmong (plain_tags l.tags) (map (plain_unit 0) l.units) (map (plain_unit 0) l.units)) [] last
