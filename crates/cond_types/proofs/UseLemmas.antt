-- Uses, and units with theirs, one by one.
use Rattle.std.proofs.Common.{◌≡◌, ℕ, suc, ◌+◌, Bool, true, false, ◌&&◌, ◌||◌, List, [], ◌∷◌, ◌++◌, length, map, refl, sym, subst, arith}
use Rattle.std.specs.Str.{bytes_eq}
use Rattle.std.proofs.lemmas.Slice.Eq.{bytes_eq-Decides}
use Rattle.cond_formula.specs.Conditions.{condition_of, value}
use Rattle.cond_bindings.specs.declared.unit_bindings.UnitBindings.{UnitBindings}
use Rattle.cond_bindings.specs.Bindings.{plain_use, uses_at}
use Rattle.cond_bindings.specs.declared.unit_bindings.FileUse.{FileUse}
use Rattle.link_faults.specs.declared.left.LeftUnit.{LeftUnit}
use Rattle.link_faults.specs.SeenUnits.{is_used}
use Rattle.cond_types.specs.declared.units.TypedUnit.{TypedUnit}
use Rattle.cond_types.specs.Uses.{uses_of_place, HasUses, HaveUses}

have_push :
    (bound : List UnitBindings) (place : ℕ) (typed : List TypedUnit) (left : List LeftUnit) (t : TypedUnit) (l : LeftUnit) → HaveUses bound place typed left → HasUses (uses_of_place bound (place + length left)) t l
    → HaveUses bound place (typed ++ t ∷ []) (left ++ l ∷ [])
have_push bound place [] [] t l h x =
    let same : place + 0 ≡ place = omega arith in
    (subst (λ n. HasUses (uses_of_place bound n) t l) same x, tt)
have_push bound place [] (b ∷ left) t l h x = absurd h
have_push bound place (a ∷ typed) [] t l h x = absurd h
have_push bound place (a ∷ typed) (b ∷ left) t l h x =
    let same : place + length (b ∷ left) ≡ suc place + length left = omega arith in
    (h.0, have_push bound (suc place) typed left t l h.1 (subst (λ n. HasUses (uses_of_place bound n) t l) same x))

-- one unit more
pub one_more :
    (bound : List UnitBindings) (typed new_typed : List TypedUnit) (left new_left : List LeftUnit) (t : TypedUnit) (l : LeftUnit) → HaveUses bound 0 typed left → HasUses (uses_of_place bound (length left)) t l
    → new_typed ≡ typed ++ t ∷ [] → new_left ≡ left ++ l ∷ [] → HaveUses bound 0 new_typed new_left
one_more bound typed new_typed left new_left t l h x typed_are left_are =
    let same : 0 + length left ≡ length left = omega arith in
    rw (typed_are, left_are) (have_push bound 0 typed left t l h (subst (λ n. HasUses (uses_of_place bound n) t l) (sym same) x))

-- the units behind the first
pub shifted : (b : UnitBindings) (bound : List UnitBindings) (place : ℕ) (typed : List TypedUnit) (left : List LeftUnit) → HaveUses (b ∷ bound) (suc place) typed left → HaveUses bound place typed left
shifted b bound place [] [] h = tt
shifted b bound place [] (l ∷ left) h = absurd h
shifted b bound place (t ∷ typed) [] h = absurd h
shifted b bound place (t ∷ typed) (l ∷ left) h = (h.0, shifted b bound (suc place) typed left h.1)

-- ---- uses

same_test : (a b : Bool) → (a ≡ true → b ≡ true) → (b ≡ true → a ≡ true) → a ≡ b
same_test true true f g = refl
same_test true false f g = sym (f refl)
same_test false true f g = g refl
same_test false false f g = refl

same_or_not : (x y : List ℕ) → bytes_eq x y ≡ bytes_eq y x
same_or_not x y =
    same_test (bytes_eq x y) (bytes_eq y x) (λ h. (bytes_eq-Decides y x).1 (sym ((bytes_eq-Decides x y).0 h))) (λ h. (bytes_eq-Decides x y).1 (sym ((bytes_eq-Decides y x).0 h)))

either_order : (p q q' r r' : Bool) → q ≡ q' → r ≡ r' → ((q && p) || r) ≡ ((p && q') || r')
either_order true true q' r r' e f = rw (sym e) refl
either_order true false q' r r' e f = rw (sym e) f
either_order false true q' r r' e f = f
either_order false false q' r r' e f = f

pub used_as : (on : ℕ → Bool) (name : List ℕ) (uses : List FileUse) → is_used on uses name ≡ uses_at on (map plain_use uses) name
used_as on name [] = refl
used_as on name (u ∷ uses) =
    either_order (value on (condition_of u.when)) (bytes_eq name u.name.items) (bytes_eq u.name.items name) (is_used on uses name) (uses_at on (map plain_use uses) name) (same_or_not name u.name.items) (used_as on name uses)
