use Rattle.std.proofs.Common.{◌≡◌, ◌∷◌, ◌++◌, [], map, length, sym, ap, ◌∙◌, rules, arith}
use Rattle.std.proofs.lemmas.List.{length-map, map-append}
use Rattle.core_meaning.specs.Linking.{same_linked, place_where}
use Rattle.core_meaning.specs.Linking as spec
use Rattle.std.specs.Prelude.{ℕ, List, None, Some}
use Rattle.plain_numbers.specs.declared.places.Linked.{Linked}
use Rattle.plain_numbers.specs.PlainLinked.{plain_linked, entry_at}
use Rattle.plain_numbers.specs.LinkedLaws.{put_at}
use Rattle.plain_numbers.proofs.PlaceLaws.{placed_more}
use Rattle.plain_numbers.proofs.places.Listing.put.Goals as goal

pub returns-clause-placed : goal.returns-clause-placed
returns-clause-placed c = λ x.
    let K = map plain_linked c.args.self.now.list.items in
    let key : Linked = record { name = c.in_ok-from_slice.field-0; unit = c.args.name.unit } in
    let named : c.in_ok-from_slice.field-0.items ≡ c.args.name.name.items = search rules in
    let with_name : List ℕ → spec.Linked = λ n. record { name = n; unit = c.args.name.unit } in
    let same : plain_linked key ≡ plain_linked c.args.name = ap with_name named in
    let long : c.in-Ok.place ≡ length K = omega (arith, length-map c.args.self.now.list.items plain_linked) in
    let new : place_where (same_linked (plain_linked key)) K ≡ None = rw same c.requires.new in
    let put = put_at key c.args.self.now.places.entries c.insert.new.self.entries (Some c.in-Ok.place) c.in_ok-insert.ensures.updates.0 in
    let pushed : map plain_linked c.push.new.self.items ≡ K ++ plain_linked key ∷ [] =
    ap (map plain_linked) c.in_ok-push.ensures.items ∙ map-append plain_linked c.args.self.now.list.items (c.args.name ∷ []) ∙ ap (λ (y : spec.Linked). K ++ y ∷ []) (sym same) in
    rw pushed (placed_more (λ (y : Linked). entry_at c.args.self.now.places (plain_linked y)) (λ (y : Linked). entry_at c.insert.new.self (plain_linked y)) K (plain_linked key) c.in-Ok.place c.requires.placed new long put x)
