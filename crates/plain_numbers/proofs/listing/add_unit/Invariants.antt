use Rattle.std.proofs.Common.{◌≡◌, map, drop}
use Rattle.core_meaning.specs.Linking as spec
use Rattle.plain_link.specs.PlainUnits.{plain_unit}
use Rattle.plain_numbers.specs.PlainLinked.{plain_list, IsPlaced}
use Rattle.plain_numbers.specs.Numbering.{wanted_in}
use Rattle.plain_numbers.proofs.listing.add_unit.Given as goal

abbrev pub invariant-loop-name : goal.invariant-loop-name
invariant-loop-name l = record {
  placed : IsPlaced l.listing;
  list : spec.each_once (plain_list l.listing) (wanted_in (map (plain_unit 0) l.units) l.functions l.index (plain_unit 0 l.unit) (map (λ name. name.items) (drop l.name-index l.unit.order.items)))
      ≡ spec.each_once (plain_list l.initial.listing) (wanted_in (map (plain_unit 0) l.units) l.functions l.index (plain_unit 0 l.unit) (plain_unit 0 l.unit).order);
}
