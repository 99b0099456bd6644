use Rattle.std.proofs.Common.{◌+◌, [], List, map, drop, sym, ap, ◌∙◌, arith}
use Rattle.core_meaning.specs.Linking as spec
use Rattle.plain_link.specs.declared.left.Left.{Left}
use Rattle.plain_link.specs.PlainUnits.{plain_unit}
use Rattle.plain_numbers.specs.PlainLinked.{plain_list}
use Rattle.plain_numbers.specs.Numbering.{wanted_in}
use Rattle.plain_numbers.proofs.NumberLaws.{drop_at, each_once_both}
use Rattle.plain_numbers.proofs.listing.listed.Goals as goal

pub loop-index-preserved : goal.loop-index-preserved
loop-index-preserved c = record {
  placed = c.in_ok-add_unit.ensures.placed;
  list =
      let units = map (plain_unit 0) c.args.units.now in
      let wanted = spec.is_wanted units c.args.functions in
      let own = plain_unit 0 c.index-units-index.result in
      let here = wanted_in units c.args.functions c.loop-index.index own own.order in
      let behind = spec.all_linked wanted (c.loop-index.index + 1) (map (plain_unit 0) (drop (c.loop-index.index + 1) c.args.units.now)) in
      let step = drop_at c.args.units.now c.loop-index.index c.index-units-index.result (omega arith) c.index-units-index.is in
      ap (λ known. spec.each_once known behind) c.in_ok-add_unit.ensures.list
      ∙ each_once_both (plain_list c.loop-index.listing) here behind
      ∙ ap (λ (rest : List Left). spec.each_once (plain_list c.loop-index.listing) (spec.all_linked wanted c.loop-index.index (map (plain_unit 0) rest))) (sym step)
      ∙ c.loop-index.invariant.list;
}
