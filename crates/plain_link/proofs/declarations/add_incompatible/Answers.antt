use Rattle.std.proofs.Common.{◌≡◌, ◌∷◌, ◌++◌, [], List, ℕ, map, Bor, Vec, Global, subst, sym, ap, ◌∙◌, true, false}
use Rattle.std.proofs.lemmas.List.{map-append}
use Rattle.std.proofs.lemmas.Map.Iter.{rest_more}
use Rattle.std.specs.Map.Iter.{deref}
use Rattle.std.specs.HashMap.{keys}
use Rattle.c_types.specs.Tags.{plain_tags}
use Rattle.core_meaning.specs.Linking.{external_sort}
use Rattle.plain_link.specs.PlainUnits.{plain_unit}
use Rattle.plain_link.specs.Faults.{IsApartOf, Adds}
use Rattle.plain_link.proofs.FaultLaws.{adds_one, skips_one, fit_not_apart}
use Rattle.plain_link.proofs.declarations.add_incompatible.Goals as goal

pub loop-name-init : goal.loop-name-init
loop-name-init c =
    let e : c.into_iter-name-iterator.result ≡ keys c.args.unit.now.names = cc in
    λ last h. rw e at h

pub loop-name-preserved-in_ok-push : goal.loop-name-preserved-in_ok-push
loop-name-preserved-in_ok-push c = λ last h.
    let P = IsApartOf (plain_tags c.args.tags.now) (map (plain_unit 0) c.args.units.now) (plain_unit 0 c.args.unit.now) in
    let e : c.loop-name.name-iterator ≡ c.in-Some.name.now ∷ c.next.new.self =
    rest_more deref c.loop-name.name-iterator c.next.new.self c.next.result c.in-Some.name c.in-Some.is c.next.ensures.steps in
    let found = map (λ (name : Bor (List ℕ)). name.now) c.loop-name.found.items in
    let rest = map (λ (name : Vec ℕ Global). name.items) c.next.new.self in
    let apart : P c.in-Some.name.now.items = subst P c.as_slice.ensures.value (rw c.if-not-branch.true at c.in_ok-declaration_fits.ensures) in
    let pushed : map (λ (name : Bor (List ℕ)). name.now) c.push.new.self.items ≡ found ++ c.in-Some.name.now.items ∷ [] =
    ap (map (λ (name : Bor (List ℕ)). name.now)) c.in_ok-push.ensures.items
    ∙ map-append (λ (name : Bor (List ℕ)). name.now) c.loop-name.found.items (c.as_slice-then-not-branch.result ∷ [])
    ∙ ap (λ (name : List ℕ). found ++ name ∷ []) c.as_slice-then-not-branch.ensures.value in
    c.loop-name.invariant last
    (subst (λ names. Adds P (map (λ (name : Vec ℕ Global). name.items) names) found last) (sym e)
    (adds_one P c.in-Some.name.now.items rest found last apart (subst (λ names. Adds P rest names last) pushed h)))

pub loop-name-preserved : goal.loop-name-preserved
loop-name-preserved c = λ last h.
    let tags = plain_tags c.args.tags.now in
    let units = map (plain_unit 0) c.args.units.now in
    let P = IsApartOf tags units (plain_unit 0 c.args.unit.now) in
    let e : c.loop-name.name-iterator ≡ c.in-Some.name.now ∷ c.next.new.self =
    rest_more deref c.loop-name.name-iterator c.next.new.self c.next.result c.in-Some.name c.in-Some.is c.next.ensures.steps in
    let found = map (λ (name : Bor (List ℕ)). name.now) c.loop-name.found.items in
    let rest = map (λ (name : Vec ℕ Global). name.items) c.next.new.self in
    let fit = fit_not_apart tags units c.as_slice.result.now (external_sort c.as_slice.result.now (plain_unit 0 c.args.unit.now)) (rw c.if-not-branch.false at c.in_ok-declaration_fits.ensures) in
    c.loop-name.invariant last
    (subst (λ names. Adds P (map (λ (name : Vec ℕ Global). name.items) names) found last) (sym e)
    (skips_one P c.in-Some.name.now.items rest found last (subst (λ n. P n → ⊥) c.as_slice.ensures.value fit) h))
