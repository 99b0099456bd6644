use Rattle.std.proofs.Common.{◌≡◌, ◌+◌, length, sym, ap, subst, ◌∙◌, arith}
use Rattle.std.proofs.lemmas.List.{length_push}
use Rattle.core_meaning.specs.Entities.{with_entry}
use Rattle.name_places.specs.Places.{place_of}
use Rattle.cond_bindings.specs.Places.{TableBelow}
use Rattle.cond_bindings.proofs.BelowLemmas.{table_longer, table_entered}
use Rattle.cond_bindings.proofs.declarations.show.Goals as goal

pub returns-in_err-enter_place-clause-below : goal.returns-in_err-enter_place-clause-below
returns-in_err-enter_place-clause-below c =
    λ below.
    let n = length c.args.declarations.now.items in
    let m = length c.declare.new.declarations.items in
    let long : m ≡ n + 1 = ap length c.in_ok-place.ensures.items ∙ length_push c.args.declarations.now.items _ in
    subst (TableBelow m) (sym c.in_err-enter_place.ensures.err) (table_longer n m (place_of c.args.table.now) (omega (arith, long)) below)

pub returns-clause-below : goal.returns-clause-below
returns-clause-below c =
    λ below.
    let n = length c.args.declarations.now.items in
    let m = length c.declare.new.declarations.items in
    let table = place_of c.args.table.now in
    let long : m ≡ n + 1 = ap length c.in_ok-place.ensures.items ∙ length_push c.args.declarations.now.items _ in
    subst (TableBelow m) (sym (c.in_ok-enter_place.ensures.ok ∙ ap (with_entry table c.args.name.now) c.in_ok-place.ensures.place)) (table_entered n m table c.args.name.now (omega (arith, long)) below)
