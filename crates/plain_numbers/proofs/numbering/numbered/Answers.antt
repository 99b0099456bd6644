use Rattle.std.proofs.Common.{◌≡◌, ◌+◌, ◌∷◌, ◌++◌, [], List, length, map, take, sym, subst, ◌∙◌, zero-add, arith}
use Rattle.std.proofs.lemmas.List.{length-map, length-take-le}
use Rattle.core_meaning.specs.Linking.{Unit}
use Rattle.plain_link.specs.PlainUnits.{plain_unit}
use Rattle.plain_scope.specs.declared.entities.Numbers.{Numbers}
use Rattle.plain_numbers.specs.Numbering.{AreNumbered, UnitNumbered}
use Rattle.plain_numbers.proofs.NumberLaws.{numbered_more, numbers_taken}
use Rattle.plain_numbers.proofs.numbering.numbered.Goals as goal

pub loop-index-preserved : goal.loop-index-preserved
loop-index-preserved c =
    let units = map (plain_unit 0) c.args.units.now in
    let before = map (plain_unit 0) (take c.loop-index.index c.args.units.now) in
    let one = c.in_ok-numbers_in.field-0 in
    let own = plain_unit 0 c.index-units-index.result in
    let long : 0 + length before ≡ c.loop-index.index =
    zero-add (length before) ∙ length-map (take c.loop-index.index c.args.units.now) (plain_unit 0) ∙ length-take-le c.loop-index.index c.args.units.now (omega arith) in
    let taken = numbers_taken (plain_unit 0) c.args.units.now c.loop-index.index c.index-units-index.result (omega arith) c.index-units-index.is in
    subst (λ (us : List Unit). AreNumbered units 0 c.push.new.self.items us) (sym taken)
    (subst (λ (ns : List Numbers). AreNumbered units 0 ns (before ++ own ∷ [])) (sym c.in_ok-push.ensures.items)
    (numbered_more units 0 c.loop-index.all.items before one own c.loop-index.invariant
    (subst (λ i. UnitNumbered units i one own) (sym long) c.in_ok-numbers_in.ensures)))
