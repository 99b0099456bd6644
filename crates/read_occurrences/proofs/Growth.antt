-- The structs that are visible at a place of a unit: what stays of them, and what names tell of them.
use Rattle.std.proofs.Common.{◌≡◌, inl, inr, ℕ, zero, suc, ◌≤◌, Bool, true, false, List, [], ◌∷◌, ◌++◌, refl, sym, ap, subst, ◌∙◌, length, arith}
use Rattle.std.specs.Prelude.{◌⊎◌, Some, slice_get, ◌==◌, if◌then◌else◌}
use Rattle.std.specs.Str.{bytes_eq}
use Rattle.std.specs.Cmp.Lexicographic.{bytes_decides}
use Rattle.std.proofs.lemmas.Bool.{false≢true, eq-eqb, eqb-true}
use Rattle.std.proofs.lemmas.Option.{same_Some, none-some}
use Rattle.c_types.specs.Tags.{PlainMember}
use Rattle.core_meaning.specs.Checking.{Entity, member_entity}
use Rattle.core_meaning.specs.Entities.{Table, Struct, Scope}
use Rattle.core_meaning.specs.Declarations.{new_struct, with_struct}
use Rattle.core_meaning.specs.UnitNames.{Members, completed, with_members_at}
use Rattle.unit_numbers.proofs.Fitting.{at_more, longer}

-- ---- lists

pub get_on : {A : Type 0} (xs ys : List A) (n : ℕ) (x : A) → slice_get xs n ≡ Some x → slice_get (xs ++ ys) n ≡ Some x
get_on [] ys n x e = absurd (none-some x e)
get_on (y ∷ xs) ys zero x e = e
get_on (y ∷ xs) ys (suc n) x e = get_on xs ys n x e

pub get_last : {A : Type 0} (xs : List A) (y : A) → slice_get (xs ++ y ∷ []) (length xs) ≡ Some y
get_last [] y = refl
get_last (x ∷ xs) y = get_last xs y

pub same_or_other : (m n : ℕ) → (m ≡ n) ⊎ (m ≡ n → ⊥)
same_or_other m n = by (m == n) refl
  where
    by : (b : Bool) → (m == n) ≡ b → (m ≡ n) ⊎ (m ≡ n → ⊥)
    by true e = inl (eqb-true m n e)
    by false e = inr (λ is. false≢true (sym e ∙ eq-eqb m n is))

-- ---- structs that only get further members

pub record Found (structs : List Struct) (n : ℕ) (x : Struct) : Type 0 where
  pub struct : Struct
  pub is : slice_get structs n ≡ Some struct
  pub members : (m : ℕ) (y : PlainMember) → slice_get x.members m ≡ Some y → slice_get struct.members m ≡ Some y

abbrev pub Grown : List Struct → List Struct → Type 0
Grown s u = (n : ℕ) (x : Struct) → slice_get s n ≡ Some x → Found u n x

pub grown_itself : (s : List Struct) → Grown s s
grown_itself s n x e = record { struct = x; is = e; members = λ m y f. f }

pub grown_both : (s u v : List Struct) → Grown s u → Grown u v → Grown s v
grown_both s u v f g n x e =
    let a = f n x e in
    let b = g n a.struct a.is in
    record { struct = b.struct; is = b.is; members = λ m y h. b.members m y (a.members m y h) }

-- structs that stay as they are, before others
abbrev pub Extends : List Struct → List Struct → Type 0
Extends s u = (n : ℕ) (x : Struct) → slice_get s n ≡ Some x → slice_get u n ≡ Some x

pub extends_grown : (s u : List Struct) → Extends s u → Grown s u
extends_grown s u f n x e = record { struct = x; is = f n x e; members = λ m y g. g }

-- the struct with this number has a member with this one
pub record HasMember (structs : List Struct) (n m : ℕ) : Type 0 where
  pub struct : Struct
  pub is : slice_get structs n ≡ Some struct
  pub member : PlainMember
  pub is_member : slice_get struct.members m ≡ Some member

abbrev pub IsKnown : List Struct → Entity → Type 0
IsKnown last (member_entity n m) = HasMember last n m
IsKnown last other = Unit {0}

-- ---- scopes, where structs from this number on are the unit's own

pub record NamedStruct (first : ℕ) (structs : List Struct) (tag : List ℕ) (n : ℕ) : Type 0 where
  pub own : first ≤ n
  pub struct : Struct
  pub is : slice_get structs n ≡ Some struct
  pub name : struct.name ≡ tag

pub record Good (first : ℕ) (s : Scope) : Type 0 where
  pub named : (tag : List ℕ) (n : ℕ) → s.tags tag ≡ Some n → NamedStruct first s.structs tag n
  pub numbered : (n : ℕ) (x : Struct) (m : ℕ) (y : PlainMember) → first ≤ n → slice_get s.structs n ≡ Some x → slice_get x.members m ≡ Some y → x.numbers y.name ≡ Some m
  pub empty : (n : ℕ) (x : Struct) → first ≤ n → slice_get s.structs n ≡ Some x → x.complete ≡ false → x.members ≡ []
  pub below : first ≤ length s.structs
  pub outside : s.blocks ≡ []

pub good_kept : (first : ℕ) (s x : Scope) → x.blocks ≡ s.blocks → x.structs ≡ s.structs → x.tags ≡ s.tags → Good first s → Good first x
good_kept first s x blocks structs tags h = record {
  named = λ tag n e. subst (λ (l : List Struct). NamedStruct first l tag n) (sym structs) (h.named tag n (ap (λ (table : Table ℕ). table tag) (sym tags) ∙ e));
  numbered = λ n y m z own e f. h.numbered n y m z own (ap (λ (l : List Struct). slice_get l n) (sym structs) ∙ e) f;
  empty = λ n y own e f. h.empty n y own (ap (λ (l : List Struct). slice_get l n) (sym structs) ∙ e) f;
  below = subst (λ (l : List Struct). first ≤ length l) (sym structs) h.below;
  outside = blocks ∙ h.outside;
}

pub new_good : (first : ℕ) (s : Scope) (tag : List ℕ) → Good first s → Good first (with_struct s tag)
new_good first s tag h = record {
  named = λ name n e. named name n (bytes_eq name tag) refl e;
  numbered = λ n x m y own e f. numbered n x m y own f (at_more s.structs (new_struct tag) n x e);
  empty = λ n x own e f. empty n x own f (at_more s.structs (new_struct tag) n x e);
  below = let under : first ≤ length s.structs = h.below in let l : length (s.structs ++ new_struct tag ∷ []) ≡ suc (length s.structs) = longer s.structs (new_struct tag) in omega (arith, under, l);
  outside = h.outside;
}
  where
    named : (name : List ℕ) (n : ℕ) (b : Bool) → bytes_eq name tag ≡ b → (if b then Some (length s.structs) else s.tags name) ≡ Some n → NamedStruct first (s.structs ++ new_struct tag ∷ []) name n
    named name n true same_ e =
        subst (λ (i : ℕ). NamedStruct first (s.structs ++ new_struct tag ∷ []) name i) (same_Some (length s.structs) n e)
        (record { own = h.below; struct = new_struct tag; is = get_last s.structs (new_struct tag); name = sym ((bytes_decides name tag).0 same_) })
    named name n false same_ e =
        let f = h.named name n e in
        record { own = f.own; struct = f.struct; is = get_on s.structs (new_struct tag ∷ []) n f.struct f.is; name = f.name }

    numbered :
        (n : ℕ) (x : Struct) (m : ℕ) (y : PlainMember) → first ≤ n → slice_get x.members m ≡ Some y → (slice_get s.structs n ≡ Some x) ⊎ ((n ≡ length s.structs) × (x ≡ new_struct tag)) → x.numbers y.name ≡ Some m
    numbered n x m y own f (inl e) = h.numbered n x m y own e f
    numbered n x m y own f (inr e) = absurd (none-some y (ap (λ (z : Struct). slice_get z.members m) (sym e.1) ∙ f))

    empty : (n : ℕ) (x : Struct) → first ≤ n → x.complete ≡ false → (slice_get s.structs n ≡ Some x) ⊎ ((n ≡ length s.structs) × (x ≡ new_struct tag)) → x.members ≡ []
    empty n x own f (inl e) = h.empty n x own e f
    empty n x own f (inr e) = ap (λ (z : Struct). z.members) e.1

-- ---- a struct that is completed

pub at_same : (xs : List Struct) (n : ℕ) (members : Members) (x : Struct) → slice_get xs n ≡ Some x → slice_get (with_members_at n members xs) n ≡ Some (completed members x)
at_same [] n members x e = absurd (none-some x e)
at_same (y ∷ xs) zero members x e = ap (λ (z : Struct). Some (completed members z)) (same_Some y x e)
at_same (y ∷ xs) (suc n) members x e = at_same xs n members x e

pub at_other : (xs : List Struct) (n m : ℕ) (members : Members) → (m ≡ n → ⊥) → slice_get (with_members_at n members xs) m ≡ slice_get xs m
at_other [] n m members other = refl
at_other (y ∷ xs) zero zero members other = absurd (other refl)
at_other (y ∷ xs) zero (suc m) members other = refl
at_other (y ∷ xs) (suc n) zero members other = refl
at_other (y ∷ xs) (suc n) (suc m) members other = at_other xs n m members (λ e. other (ap suc e))

pub as_many : (xs : List Struct) (n : ℕ) (members : Members) → length (with_members_at n members xs) ≡ length xs
as_many [] n members = refl
as_many (y ∷ xs) zero members = refl
as_many (y ∷ xs) (suc n) members = ap suc (as_many xs n members)

-- names tell the numbers of members
abbrev pub GoodMembers : Members → Type 0
GoodMembers members = (m : ℕ) (y : PlainMember) → slice_get members.members m ≡ Some y → members.numbers y.name ≡ Some m

pub completed_grown : (xs : List Struct) (n : ℕ) (members : Members) (x : Struct) → slice_get xs n ≡ Some x → x.members ≡ [] → Grown xs (with_members_at n members xs)
completed_grown xs n members x e none_ i y f = by (same_or_other i n)
  where
    by : (i ≡ n) ⊎ (i ≡ n → ⊥) → Found (with_members_at n members xs) i y
    by (inl is) =
        let same_ : x ≡ y = same_Some x y (sym e ∙ ap (slice_get xs) (sym is) ∙ f) in
        record {
          struct = completed members x;
          is = ap (slice_get (with_members_at n members xs)) is ∙ at_same xs n members x e;
          members = λ m z g. absurd (none-some z (ap (λ (l : List PlainMember). slice_get l m) (sym (ap (λ (s : Struct). s.members) (sym same_) ∙ none_)) ∙ g));
        }
    by (inr other) = record { struct = y; is = at_other xs n i members other ∙ f; members = λ m z g. g }

pub completed_good : (first : ℕ) (s : Scope) (n : ℕ) (members : Members) (x : Struct) → slice_get s.structs n ≡ Some x → GoodMembers members → Good first s → Good first (record s { structs = with_members_at n members s.structs })
completed_good first s n members x e good h = record {
  named = λ tag i f. named tag i (h.named tag i f) (same_or_other i n);
  numbered = λ i y m z own f g. numbered i y m z own f g (same_or_other i n);
  empty = λ i y own f open_. empty i y own f open_ (same_or_other i n);
  below = subst (λ (l : ℕ). first ≤ l) (sym (as_many s.structs n members)) h.below;
  outside = h.outside;
}
  where
    it : (i : ℕ) (y : Struct) → i ≡ n → slice_get (with_members_at n members s.structs) i ≡ Some y → completed members x ≡ y
    it i y is f = same_Some (completed members x) y (sym (at_same s.structs n members x e) ∙ ap (slice_get (with_members_at n members s.structs)) (sym is) ∙ f)

    named : (tag : List ℕ) (i : ℕ) → NamedStruct first s.structs tag i → (i ≡ n) ⊎ (i ≡ n → ⊥) → NamedStruct first (with_members_at n members s.structs) tag i
    named tag i f (inl is) =
        record {
          own = f.own;
          struct = completed members f.struct;
          is = ap (slice_get (with_members_at n members s.structs)) is ∙ at_same s.structs n members f.struct (ap (slice_get s.structs) (sym is) ∙ f.is);
          name = f.name;
        }
    named tag i f (inr other) = record { own = f.own; struct = f.struct; is = at_other s.structs n i members other ∙ f.is; name = f.name }

    numbered :
        (i : ℕ) (y : Struct) (m : ℕ) (z : PlainMember) → first ≤ i → slice_get (with_members_at n members s.structs) i ≡ Some y → slice_get y.members m ≡ Some z → (i ≡ n) ⊎ (i ≡ n → ⊥) → y.numbers z.name ≡ Some m
    numbered i y m z own f g (inl is) =
        let same_ = it i y is f in
        ap (λ (s : Struct). s.numbers z.name) (sym same_) ∙ good m z (ap (λ (s : Struct). slice_get s.members m) same_ ∙ g)
    numbered i y m z own f g (inr other) = h.numbered i y m z own (sym (at_other s.structs n i members other) ∙ f) g

    empty : (i : ℕ) (y : Struct) → first ≤ i → slice_get (with_members_at n members s.structs) i ≡ Some y → y.complete ≡ false → (i ≡ n) ⊎ (i ≡ n → ⊥) → y.members ≡ []
    empty i y own f open_ (inl is) = absurd (false≢true (sym open_ ∙ ap (λ (s : Struct). s.complete) (sym (it i y is f))))
    empty i y own f open_ (inr other) = h.empty i y own (sym (at_other s.structs n i members other) ∙ f) open_
