use Rattle.std.proofs.Common.{[], map, sym, ◌∙◌}
use Rattle.core_meaning.specs.Linking.{place_where, same_linked, linked_in}
use Rattle.plain_scope.specs.PlainScope.{entry_of}
use Rattle.plain_numbers.specs.Numbering.{number_for}
use Rattle.plain_link.specs.PlainUnits.{plain_unit}
use Rattle.plain_numbers.specs.PlainLinked.{plain_list}
use Rattle.plain_numbers.proofs.NumberLaws.{number_wanted, number_unwanted, with_number_same}
use Rattle.plain_numbers.proofs.numbering.add_number.Goals as goal

pub returns-then-not-is_wanted : goal.returns-then-not-is_wanted
returns-then-not-is_wanted c = λ names before q.
    before q
    ∙ sym (number_unwanted (plain_list c.args.listing.now) (map (plain_unit 0) c.args.units.now) c.args.functions c.args.index (plain_unit 0 c.args.unit.now) names c.args.name.now q (sym c.if-not-is_wanted.ensures))

pub returns : goal.returns
returns c = λ names before q.
    let K = plain_list c.args.listing.now in
    let own = plain_unit 0 c.args.unit.now in
    c.in_ok-put_number.ensures q
    ∙ with_number_same (place_where (same_linked (linked_in c.args.index own c.args.name.now)) K) (entry_of c.args.numbers.now) (number_for K (map (plain_unit 0) c.args.units.now) c.args.functions c.args.index own names) c.args.name.now q (before q)
    ∙ sym (number_wanted K (map (plain_unit 0) c.args.units.now) c.args.functions c.args.index own names c.args.name.now q (sym c.if-not-is_wanted.ensures))
