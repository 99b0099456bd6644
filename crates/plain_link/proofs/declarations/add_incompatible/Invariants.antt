use Rattle.std.proofs.Common.{List, [], map, ℕ}
use Rattle.c_types.specs.Tags.{plain_tags}
use Rattle.plain_link.specs.PlainUnits.{plain_unit, key_texts}
use Rattle.plain_link.specs.Faults.{IsApartOf, Adds}
use Rattle.plain_link.proofs.declarations.add_incompatible.Given as goal

abbrev pub invariant-loop-name : goal.invariant-loop-name
invariant-loop-name l = (last : List (List ℕ)) →
    Adds (IsApartOf (plain_tags l.tags) (map (plain_unit 0) l.units) (plain_unit 0 l.unit)) (map (λ name. name.items) l.name-iterator) (map (λ name. name.now) l.found.items) last →
    Adds (IsApartOf (plain_tags l.tags) (map (plain_unit 0) l.units) (plain_unit 0 l.unit)) (key_texts l.unit.names) (map (λ name. name.now) l.initial.found.items) last
