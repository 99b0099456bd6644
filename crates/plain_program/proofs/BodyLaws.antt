-- Bodies in a map, one definition more at a time.
use Rattle.std.proofs.Common.{◌≡◌, ℕ, zero, suc, ◌+◌, ◌==◌, Bool, true, false, not, ◌&&◌, List, [], ◌∷◌, ◌++◌, length, refl, ◌∙◌, arith}
use Rattle.std.specs.Prelude.{Option, Some, None, slice_get, option_map, if◌then◌else◌}
use Rattle.std.specs.Str.{bytes_eq}
use Rattle.std.proofs.lemmas.Bool.Decides.{nat_tests}
use Rattle.core_meaning.specs.Entities.{or_else}
use Rattle.core_meaning.specs.UnitNames.{Body, Defined}
use Rattle.core_meaning.specs.Linking.{Unit, whole_body, same_unit, is_tentative}
use Rattle.plain_numbers.specs.declared.places.Linked.{Linked}
use Rattle.plain_program.specs.Owners.{unit_in}
use Rattle.plain_program.specs.Bodies.{body_in, body_for, whole_for, one_for}

pub mapped_choice : {A B : Type 0} (f : A → B) (t : Bool) (o : Option A) → option_map f (if t then None else o) ≡ (if t then None else option_map f o)
mapped_choice f true o = refl
mapped_choice f false o = refl

pub or_else_assoc : {A : Type 0} (a b c : Option A) → or_else (or_else a b) c ≡ or_else a (or_else b c)
or_else_assoc (Some x) b c = refl
or_else_assoc None b c = refl

or_else_none : {A : Type 0} (a : Option A) → a ≡ or_else a None
or_else_none (Some x) = refl
or_else_none None = refl

whole_more : (ds : List Defined) (d : Defined) (name : List ℕ) → whole_body (ds ++ d ∷ []) name ≡ or_else (whole_body ds name) (if bytes_eq d.name name && not (is_tentative d.body) then Some d.body else None)
whole_more [] d name = refl
whole_more (x ∷ ds) d name = step (whole_body (ds ++ d ∷ []) name) (whole_body ds name) (if bytes_eq d.name name && not (is_tentative d.body) then Some d.body else None) (bytes_eq x.name name && not (is_tentative x.body)) x.body (whole_more ds d name)
  where
    step : (o p q : Option Body) (t : Bool) (b : Body) → o ≡ or_else p q → (if t then Some b else o) ≡ or_else (if t then Some b else p) q
    step o p q true b h = refl
    step o p q false b h = h

-- one definition more
pub whole_for_more : (index : ℕ) (ds : List Defined) (d : Defined) (key : Linked) → whole_for index (ds ++ d ∷ []) key ≡ or_else (whole_for index ds key) (one_for index d key)
whole_for_more index ds d key = at (same_unit (Some index) key.unit)
  where
    at : (t : Bool) → (if t then whole_body (ds ++ d ∷ []) key.name.items else None) ≡ or_else (if t then whole_body ds key.name.items else None) (if t && (bytes_eq d.name key.name.items && not (is_tentative d.body)) then Some d.body else None)
    at true = whole_more ds d key.name.items
    at false = refl

zero_differs : (0 == 0) ≡ false → ⊥
zero_differs h = cc

suc_differs : (i : ℕ) → (0 == suc i) ≡ true → ⊥
suc_differs i h = absurd (grind (arith, nat_tests))

suc_first : (n : ℕ) → (suc n == 0) ≡ true → ⊥
suc_first n h = absurd (grind (arith, nat_tests))

same_down : (a b : ℕ) → (suc a == suc b) ≡ true → (a == b) ≡ true
same_down a b h = grind (arith, nat_tests)

apart_down : (a b : ℕ) → (suc a == suc b) ≡ false → (a == b) ≡ false
apart_down a b h = grind (arith, nat_tests)

down : (a b : ℕ) (t : Bool) → (suc a == suc b) ≡ t → (a == b) ≡ t
down a b true h = same_down a b h
down a b false h = apart_down a b h

later : (o p : Option Body) (t : Bool) → (t ≡ true → ⊥) → o ≡ or_else o (if t then p else None)
later o p true h = absurd (h refl)
later o p false h = or_else_none o

-- one unit more
pub body_for_more : (units : List Unit) (unit : Unit) (key : Linked) → body_for (units ++ unit ∷ []) key ≡ or_else (body_for units key) (whole_for (length units) unit.defined key)
body_for_more units unit key = at key.unit
  where
    from : (units : List Unit) (i : ℕ) (t : Bool) → (length units == i) ≡ t → body_in (slice_get (units ++ unit ∷ []) i) key.name.items ≡ or_else (body_in (slice_get units i) key.name.items) (if t then whole_body unit.defined key.name.items else None)
    from [] zero true h = refl
    from [] zero false h = absurd (zero_differs h)
    from [] (suc i) false h = refl
    from [] (suc i) true h = absurd (suc_differs i h)
    from (x ∷ units) zero t h = later (whole_body x.defined key.name.items) (whole_body unit.defined key.name.items) t (λ e. suc_first (length units) (h ∙ e))
    from (x ∷ units) (suc i) t h = from units i t (down (length units) i t h)

    at : (n : Option ℕ) → body_in (unit_in (units ++ unit ∷ []) n) key.name.items ≡ or_else (body_in (unit_in units n) key.name.items) (if same_unit (Some (length units)) n then whole_body unit.defined key.name.items else None)
    at None = refl
    at (Some i) = from units i (length units == i) refl
