use Rattle.std.proofs.Common.{◌≡◌, ◌+◌, [], List, ℕ, map, Bor, drop, subst, sym, arith}
use Rattle.std.proofs.Math.ListN.{drop_of_length-le}
use Rattle.c_types.specs.Tags.{plain_tags}
use Rattle.plain_link.specs.declared.left.Left.{Left}
use Rattle.plain_link.specs.PlainUnits.{plain_unit, key_texts}
use Rattle.plain_link.specs.Faults.{IsApartOf, IsApartAmong, Collects}
use Rattle.plain_link.proofs.FaultLaws.{collects_both, collects_none, apart_of_declared, finds_collected, drop_at}
use Rattle.plain_link.proofs.declarations.incompatible.Goals as goal

pub loop-unit-preserved : goal.loop-unit-preserved
loop-unit-preserved c = λ last h.
    let tags = plain_tags c.args.tags.now in
    let units = map (plain_unit 0) c.args.units.now in
    let behind = drop (c.loop-unit.unit-index + 1) c.args.units.now in
    let found = map (λ (name : Bor (List ℕ)). name.now) c.loop-unit.found.items in
    let mid = map (λ (name : Bor (List ℕ)). name.now) c.add_incompatible.new.found.items in
    let step = drop_at c.args.units.now c.loop-unit.unit-index c.unit-item.result (omega arith) c.unit-item.is in
    c.loop-unit.invariant last
    (subst (λ (rest : List Left). Collects (IsApartAmong tags units (map (plain_unit 0) rest)) found last) (sym step)
    (collects_both (IsApartOf tags units (plain_unit 0 c.unit-item.result)) (IsApartAmong tags units (map (plain_unit 0) behind)) (key_texts c.unit-item.result.names) found mid last
    (apart_of_declared tags units c.unit-item.result) c.in_ok-add_incompatible.ensures h))

pub returns : goal.returns
returns c =
    let tags = plain_tags c.args.tags.now in
    let units = map (plain_unit 0) c.args.units.now in
    let none : drop c.loop-unit.unit-index c.args.units.now ≡ [] = drop_of_length-le c.args.units.now (omega arith) in
    let found = map (λ (name : Bor (List ℕ)). name.now) c.loop-unit.found.items in
    finds_collected tags units found
    (c.loop-unit.invariant found (rw none (collects_none (IsApartAmong tags units []) found (λ n p. p))))
