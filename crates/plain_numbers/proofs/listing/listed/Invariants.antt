use Rattle.std.proofs.Common.{◌≡◌, [], map, drop}
use Rattle.core_meaning.specs.Linking as spec
use Rattle.plain_link.specs.PlainUnits.{plain_unit}
use Rattle.plain_numbers.specs.PlainLinked.{plain_list, IsPlaced}
use Rattle.plain_numbers.proofs.listing.listed.Given as goal

abbrev pub invariant-loop-index : goal.invariant-loop-index
invariant-loop-index l = record {
  placed : IsPlaced l.listing;
  list : spec.each_once (plain_list l.listing) (spec.all_linked (spec.is_wanted (map (plain_unit 0) l.units) l.functions) l.index (map (plain_unit 0) (drop l.index l.units)))
      ≡ spec.listed (map (plain_unit 0) l.units) l.functions;
}
