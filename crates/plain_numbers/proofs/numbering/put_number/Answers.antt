use Rattle.std.proofs.Common.{◌≡◌, sym, ap, ◌∙◌, rules}
use Rattle.std.specs.Prelude.{Some, if◌then◌else◌}
use Rattle.std.specs.Str.{bytes_eq}
use Rattle.core_meaning.specs.Linking as spec
use Rattle.core_meaning.specs.Linking.{place_where, same_linked}
use Rattle.plain_link.specs.PlainUnits.{plain_unit}
use Rattle.plain_link.specs.MapLaws.{put_there}
use Rattle.plain_scope.specs.PlainScope.{entry_of}
use Rattle.plain_numbers.specs.PlainLinked.{plain_list}
use Rattle.plain_numbers.specs.Numbering.{with_number}
use Rattle.plain_numbers.proofs.numbering.put_number.Goals as goal

pub returns : goal.returns
returns c = λ other.
    let put = c.in_ok-insert-in-Some.ensures.updates in
    let K = plain_list c.args.listing.now in
    let own = spec.linked_in c.args.index (plain_unit 0 c.args.unit.now) c.args.name.now in
    let place : place_where (same_linked own) K ≡ Some c.in-Some.number =
    ap (λ y. place_where (same_linked y) K) (sym c.in_ok-key.ensures) ∙ sym c.in-Some.ensures in
    let same : c.in_ok-from_slice-in-Some.field-0.items ≡ c.args.name.now = search rules in
    let by_key = put_there (λ k. k.items) c.in_ok-from_slice-in-Some.field-0.items c.args.numbers.now.entries c.insert.new.self.entries c.in-Some.number put.1 put.3 in
    let old = entry_of c.args.numbers.now in
    by_key other
    ∙ ap (λ n. if bytes_eq n other then Some c.in-Some.number else old other) same
    ∙ ap (λ o. with_number o old c.args.name.now other) (sym place)
