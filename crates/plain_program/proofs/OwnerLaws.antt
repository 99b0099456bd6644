-- The unit that defines a name, and names that have different ones.
use Rattle.std.proofs.Common.{◌≡◌, ℕ, suc, ◌+◌, Bool, true, false, ◌||◌, List, [], ◌∷◌, ◌++◌, map, ⊎_elim, inl, inr, refl, sym, ap, subst, ◌∙◌, add-zero, arith}
use Rattle.std.specs.Prelude.{Some, None, slice_get, ◌⊎◌, ⊤}
use Rattle.std.specs.List.{list_any}
use Rattle.std.specs.Str.{bytes_eq}
use Rattle.std.specs.Cmp.Lexicographic.{bytes_decides}
use Rattle.std.proofs.lemmas.Bool.{cases_Bool, and_parts, both_ways}
use Rattle.core_meaning.specs.Linking.{Unit, Linked, linked_in, same_unit, same_linked, defines, defines_linked, unit_of, added_once, each_once}
use Rattle.plain_numbers.specs.declared.places.Linked.{Linked as RustLinked}
use Rattle.plain_numbers.specs.PlainLinked.{plain_linked}
use Rattle.plain_numbers.specs.LinkedLaws.{same_is, same_itself, same_turned, same_unit_is}
use Rattle.plain_program.specs.Owners.{owner_from, key_in}
use Rattle.plain_program.specs.Functions.{IsApartFrom, AreApart}

-- the unit that defines a name, of those from one on
pub record Owned (e : Linked) (index : ℕ) (units : List Unit) : Type 0 where
  pub at : ℕ
  pub unit : Unit
  pub number : owner_from e index units ≡ Some (index + at)
  pub there : slice_get units at ≡ Some unit
  pub is : unit_of e index units ≡ Some unit
  pub defines : defines_linked e (index + at) unit ≡ true

pub record Unowned (e : Linked) (index : ℕ) (units : List Unit) : Type 0 where
  pub number : owner_from e index units ≡ None
  pub is : unit_of e index units ≡ None

pub owned_or_not : (e : Linked) (index : ℕ) (units : List Unit) → Owned e index units ⊎ Unowned e index units
owned_or_not e index [] = inr (record { number = refl; is = refl })
owned_or_not e index (unit ∷ rest) =
    ⊎_elim
    (λ (t : defines_linked e index unit ≡ true). inl (record {
      at = 0;
      unit = unit;
      number = rw t (ap (λ n. Some n) (sym (add-zero index)));
      there = refl;
      is = rw t refl;
      defines = ap (λ n. defines_linked e n unit) (add-zero index) ∙ t;
    }))
    (λ (t : defines_linked e index unit ≡ false). ⊎_elim
    (λ (h : Owned e (index + 1) rest).
    let n : (index + 1) + h.at ≡ index + suc h.at = omega arith in
    inl (record {
      at = suc h.at;
      unit = h.unit;
      number = rw t (h.number ∙ ap (λ n. Some n) n);
      there = h.there;
      is = rw t h.is;
      defines = ap (λ n. defines_linked e n h.unit) (sym n) ∙ h.defines;
    }))
    (λ (h : Unowned e (index + 1) rest). inr (record { number = rw t h.number; is = rw t h.is }))
    (owned_or_not e (index + 1) rest))
    (cases_Bool (defines_linked e index unit))

some_is : {A : Type 0} (a b : A) → Some a ≡ Some b → a ≡ b
some_is a b h = cc

-- one unit defines two names with linkage under one name only if they are the same
same_owner : (e f : Linked) (i : ℕ) (u : Unit) → e.name ≡ f.name → defines_linked e i u ≡ true → defines_linked f i u ≡ true → e ≡ f
same_owner e f i u name h k =
    same_is e (linked_in i u e.name) (and_parts (same_linked e (linked_in i u e.name)) (defines u e.name) h).0
    ∙ ap (linked_in i u) name
    ∙ sym (same_is f (linked_in i u f.name) (and_parts (same_linked f (linked_in i u f.name)) (defines u f.name) k).0)

owned_same : (e f : Linked) (units : List Unit) → Owned e 0 units → Owned f 0 units → e.name ≡ f.name → owner_from e 0 units ≡ owner_from f 0 units → e ≡ f
owned_same e f units h k name owner =
    let place : 0 + h.at ≡ 0 + k.at = some_is (0 + h.at) (0 + k.at) (sym h.number ∙ owner ∙ k.number) in
    let at : h.at ≡ k.at = omega (arith, place) in
    let unit : h.unit ≡ k.unit = some_is h.unit k.unit (sym h.there ∙ ap (slice_get units) at ∙ k.there) in
    same_owner e f (0 + k.at) k.unit name (subst (λ u. defines_linked e (0 + k.at) u ≡ true) unit (subst (λ n. defines_linked e n h.unit ≡ true) place h.defines)) k.defines

owner_apart : (e f : Linked) (units : List Unit) → Owned e 0 units → Owned f 0 units ⊎ Unowned f 0 units → same_linked e f ≡ false → same_linked (key_in units e) (key_in units f) ≡ true → ⊥
owner_apart e f units h (inl k) apart same =
    let parts = and_parts (bytes_eq e.name f.name) (same_unit (owner_from e 0 units) (owner_from f 0 units)) same in
    let equal : e ≡ f = owned_same e f units h k ((bytes_decides e.name f.name).0 parts.0) (same_unit_is (owner_from e 0 units) (owner_from f 0 units) parts.1) in
    both_ways (same_linked e f) apart (subst (λ x. same_linked e x ≡ true) equal (same_itself e))
owner_apart e f units h (inr k) apart same =
    let parts = and_parts (bytes_eq e.name f.name) (same_unit (owner_from e 0 units) (owner_from f 0 units)) same in
    let unowned : Some (0 + h.at) ≡ None = sym h.number ∙ same_unit_is (owner_from e 0 units) (owner_from f 0 units) parts.1 ∙ k.number in
    absurd cc

key_apart : (e f : Linked) (units : List Unit) → same_linked e f ≡ false → (owner_from e 0 units ≡ None) ⊎ (same_linked (key_in units e) (key_in units f) ≡ false)
key_apart e f units apart =
    ⊎_elim
    (λ (h : Owned e 0 units). ⊎_elim
    (λ (same : same_linked (key_in units e) (key_in units f) ≡ true). absurd (owner_apart e f units h (owned_or_not f 0 units) apart same))
    (λ (differs : same_linked (key_in units e) (key_in units f) ≡ false). inr differs)
    (cases_Bool (same_linked (key_in units e) (key_in units f))))
    (λ (h : Unowned e 0 units). inl h.number)
    (owned_or_not e 0 units)

-- ---- names that stand once

abbrev pub Distinct : List Linked → Type 0
Distinct [] = ⊤
Distinct (e ∷ es) = (list_any (same_linked e) es ≡ false) × Distinct es

or_none : (a b : Bool) → a ≡ false → b ≡ false → (a || b) ≡ false
or_none a b h k = rw (h, k) refl

or_parts : (a b : Bool) → (a || b) ≡ false → (a ≡ false) × (b ≡ false)
or_parts true b h = absurd cc
or_parts false b h = (refl, h)

any_more : (e f : Linked) (es : List Linked) → list_any (same_linked e) es ≡ false → same_linked e f ≡ false → list_any (same_linked e) (es ++ f ∷ []) ≡ false
any_more e f [] h k = or_none (same_linked e f) false k refl
any_more e f (x ∷ es) h k =
    let parts = or_parts (same_linked e x) (list_any (same_linked e) es) h in
    or_none (same_linked e x) (list_any (same_linked e) (es ++ f ∷ [])) parts.0 (any_more e f es parts.1 k)

distinct_more : (es : List Linked) (f : Linked) → Distinct es → list_any (same_linked f) es ≡ false → Distinct (es ++ f ∷ [])
distinct_more [] f h k = (refl, tt)
distinct_more (e ∷ es) f h k =
    let parts = or_parts (same_linked f e) (list_any (same_linked f) es) k in
    (any_more e f es h.0 (same_turned f e parts.0), distinct_more es f h.1 parts.1)

distinct_added : (es : List Linked) (f : Linked) → Distinct es → Distinct (added_once es f)
distinct_added es f h =
    ⊎_elim
    (λ (t : list_any (same_linked f) es ≡ true). rw t h)
    (λ (t : list_any (same_linked f) es ≡ false). rw t (distinct_more es f h t))
    (cases_Bool (list_any (same_linked f) es))

pub distinct_once : (known es : List Linked) → Distinct known → Distinct (each_once known es)
distinct_once known [] h = h
distinct_once known (e ∷ es) h = distinct_once (added_once known e) es (distinct_added known e h)

-- ---- keys

apart_from : (units : List Unit) (key : RustLinked) (keys : List RustLinked) (e : Linked) (es : List Linked) → plain_linked key ≡ key_in units e → map plain_linked keys ≡ map (key_in units) es → list_any (same_linked e) es ≡ false → IsApartFrom key keys
apart_from units key [] e es is are h = tt
apart_from units key (k ∷ keys) e [] is are h = absurd cc
apart_from units key (k ∷ keys) e (f ∷ es) is are h =
    let parts = or_parts (same_linked e f) (list_any (same_linked e) es) h in
    let first : plain_linked k ≡ key_in units f = heads (plain_linked k) (key_in units f) (map plain_linked keys) (map (key_in units) es) are in
    let rest : map plain_linked keys ≡ map (key_in units) es = tails (plain_linked k) (key_in units f) (map plain_linked keys) (map (key_in units) es) are in (
      ⊎_elim
          (λ (none : owner_from e 0 units ≡ None). inl (ap (λ (x : Linked). x.unit) is ∙ none))
          (λ (differs : same_linked (key_in units e) (key_in units f) ≡ false).
          inr (ap (λ (x : Linked). same_linked x (plain_linked k)) is ∙ ap (λ (x : Linked). same_linked (key_in units e) x) first ∙ differs))
          (key_apart e f units parts.0),
      apart_from units key keys e es is rest parts.1,
    )
  where
    heads : (a b : Linked) (as_ bs : List Linked) → a ∷ as_ ≡ b ∷ bs → a ≡ b
    heads a b as_ bs e = cc

    tails : (a b : Linked) (as_ bs : List Linked) → a ∷ as_ ≡ b ∷ bs → as_ ≡ bs
    tails a b as_ bs e = cc

-- the keys of names that stand once are apart
pub keys_apart : (units : List Unit) (keys : List RustLinked) (es : List Linked) → map plain_linked keys ≡ map (key_in units) es → Distinct es → AreApart keys
keys_apart units [] es are h = tt
keys_apart units (k ∷ keys) [] are h = absurd cc
keys_apart units (k ∷ keys) (e ∷ es) are h = (
  apart_from units k keys e es (heads (plain_linked k) (key_in units e) (map plain_linked keys) (map (key_in units) es) are) (tails (plain_linked k) (key_in units e) (map plain_linked keys) (map (key_in units) es) are) h.0,
  keys_apart units keys es (tails (plain_linked k) (key_in units e) (map plain_linked keys) (map (key_in units) es) are) h.1,
)
  where
    heads : (a b : Linked) (as_ bs : List Linked) → a ∷ as_ ≡ b ∷ bs → a ≡ b
    heads a b as_ bs e = cc

    tails : (a b : Linked) (as_ bs : List Linked) → a ∷ as_ ≡ b ∷ bs → as_ ≡ bs
    tails a b as_ bs e = cc
