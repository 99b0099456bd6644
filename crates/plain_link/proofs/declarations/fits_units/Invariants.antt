use Rattle.std.proofs.Common.{[], drop, map}
use Rattle.c_types.specs.Tags.{plain_tags}
use Rattle.core_meaning.specs.Linking as spec
use Rattle.plain_scope.specs.PlainScope.{plain_sort}
use Rattle.plain_link.specs.PlainUnits.{plain_unit}
use Rattle.plain_link.specs.Faults.{AllOf, FitsSort, IsApartFrom, Reaches}
use Rattle.plain_link.proofs.declarations.fits_units.Given as goal

abbrev pub invariant-loop-unit : goal.invariant-loop-unit
invariant-loop-unit l = Reaches
    (AllOf (FitsSort (plain_tags l.tags) (plain_sort l.sort)) (map (spec.external_sort l.name) (map (plain_unit 0) (drop l.unit-index l.units))))
    (AllOf (FitsSort (plain_tags l.tags) (plain_sort l.sort)) (map (spec.external_sort l.name) (map (plain_unit 0) l.units)))
    (IsApartFrom (plain_tags l.tags) (plain_sort l.sort) (map (spec.external_sort l.name) (map (plain_unit 0) (drop l.unit-index l.units))))
    (IsApartFrom (plain_tags l.tags) (plain_sort l.sort) (map (spec.external_sort l.name) (map (plain_unit 0) l.units)))
