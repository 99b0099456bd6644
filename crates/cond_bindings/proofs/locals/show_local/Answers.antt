use Rattle.std.proofs.Common.{◌≡◌, ◌+◌, List, true, length, sym, ap, subst, ◌∙◌, arith}
use Rattle.std.specs.List.{list_all}
use Rattle.std.proofs.lemmas.List.{length_push}
use Rattle.cond_bindings.specs.Places.{LocalPlace, latest_first, local_below}
use Rattle.cond_bindings.proofs.BelowLemmas.{locals_longer, locals_entered}
use Rattle.cond_bindings.proofs.locals.show_local.Goals as goal

pub returns-in_err-enter-clause-below : goal.returns-in_err-enter-clause-below
returns-in_err-enter-clause-below c =
    λ below.
    let n = length c.args.declarations.now.items in
    let m = length c.declare.new.declarations.items in
    let long : m ≡ n + 1 = ap length c.in_ok-place.ensures.items ∙ length_push c.args.declarations.now.items _ in
    subst (λ (ls : List LocalPlace). list_all (local_below m) ls ≡ true) (sym c.in_err-enter.ensures.err) (locals_longer n m (latest_first c.args.locals.now.items) (omega (arith, long)) below)

pub returns-clause-below : goal.returns-clause-below
returns-clause-below c =
    λ below.
    let n = length c.args.declarations.now.items in
    let m = length c.declare.new.declarations.items in
    let l : LocalPlace = record { name = c.args.name.now; place = c.in_ok-place.place } in
    let long : m ≡ n + 1 = ap length c.in_ok-place.ensures.items ∙ length_push c.args.declarations.now.items _ in
    subst (λ (ls : List LocalPlace). list_all (local_below m) ls ≡ true) (sym c.in_ok-enter.ensures.ok) (locals_entered n m l (latest_first c.args.locals.now.items) c.in_ok-place.ensures.place (omega (arith, long)) below)
