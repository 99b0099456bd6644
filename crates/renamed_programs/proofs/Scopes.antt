-- What is visible to two judgements: structs that are alike but for names, names of file scope with the same meaning where they correspond, and
-- locals whose slots have the types that both have written down. Of names that don't correspond nothing is said.
use Rattle.std.proofs.Common.{◌≡◌, ℕ, zero, suc, ◌<◌, List, [], ◌∷◌, ◌++◌, map, length, refl, ap}
use Rattle.std.specs.Prelude.{Option, Some, None, slice_get}
use Rattle.std.specs.List.{AllZip}
use Rattle.c_types.specs.Types.{PlainType, void, pointer_to, array_of, structure}
use Rattle.c_types.specs.Tags.{PlainMember}
use Rattle.core_meaning.specs.Entities.{Table, Struct, Local, Numbers, Scope, local_in}
use Rattle.core_meaning.specs.Typing.{is_complete, is_complete_struct, is_movable}
use Rattle.renamed_programs.proofs.Alike.{Naming}

abbrev pub member_types : List PlainMember → List PlainType
member_types members = map (λ m. m.ty) members

pub record SameStruct (a b : Struct) : Type 0 where
  pub complete : a.complete ≡ b.complete
  pub members : member_types a.members ≡ member_types b.members

abbrev pub SameStructs : List Struct → List Struct → Type 0
SameStructs structs others = AllZip SameStruct structs others

-- each local has the type of its slot
abbrev pub HaveTypes : List PlainType → List (Table Local) → Type 0
HaveTypes slots blocks = (name : List ℕ) (l : Local) → local_in blocks name ≡ Some l → slice_get slots l.slot ≡ Some l.ty

-- each tag is that of a struct
abbrev pub AreDeclared : Table ℕ → List Struct → Type 0
AreDeclared tags structs = (name : List ℕ) (n : ℕ) → tags name ≡ Some n → n < length structs

pub record SameNumbers (named : Naming) (numbers others : Numbers) : Type 0 where
  pub globals : (a b : List ℕ) → named a b → numbers.globals a ≡ others.globals b
  pub functions : (a b : List ℕ) → named a b → numbers.functions a ≡ others.functions b
  pub literals : (bytes : List ℕ) → numbers.literals bytes ≡ others.literals bytes

pub record AlikeScopes (named : Naming) (slots : List PlainType) (s u : Scope) : Type 0 where
  pub structs : SameStructs s.structs u.structs
  pub names : (a b : List ℕ) → named a b → s.file_names a ≡ u.file_names b
  pub order : AllZip named s.order u.order
  pub locals : HaveTypes slots s.blocks
  pub other_locals : HaveTypes slots u.blocks
  pub tags : AreDeclared s.tags s.structs
  pub other_tags : AreDeclared u.tags u.structs
  pub numbers : SameNumbers named s.numbers u.numbers

-- ---- structs

abbrev pub BothOr : {A B : Type 0} → (A → B → Type 0) → Option A → Option B → Type 0
BothOr R (Some a) (Some b) = R a b
BothOr R (Some a) None = ⊥
BothOr R None (Some b) = ⊥
BothOr R None None = Unit {0}

pub zip_at : {A B : Type 0} (R : A → B → Type 0) (xs : List A) (ys : List B) → AllZip R xs ys → (n : ℕ) → BothOr R (slice_get xs n) (slice_get ys n)
zip_at R [] [] h n = tt
zip_at R [] (y ∷ ys) h n = absurd h
zip_at R (x ∷ xs) [] h n = absurd h
zip_at R (x ∷ xs) (y ∷ ys) h zero = h.0
zip_at R (x ∷ xs) (y ∷ ys) h (suc n) = zip_at R xs ys h.1 n

pub zip_length : {A B : Type 0} (R : A → B → Type 0) (xs : List A) (ys : List B) → AllZip R xs ys → length xs ≡ length ys
zip_length R [] [] h = refl
zip_length R [] (y ∷ ys) h = absurd h
zip_length R (x ∷ xs) [] h = absurd h
zip_length R (x ∷ xs) (y ∷ ys) h = ap suc (zip_length R xs ys h.1)

pub zip_append : {A B : Type 0} (R : A → B → Type 0) (xs : List A) (ys : List B) (as_ : List A) (bs : List B) → AllZip R xs ys → AllZip R as_ bs → AllZip R (xs ++ as_) (ys ++ bs)
zip_append R [] [] as_ bs h i = i
zip_append R [] (y ∷ ys) as_ bs h i = absurd h
zip_append R (x ∷ xs) [] as_ bs h i = absurd h
zip_append R (x ∷ xs) (y ∷ ys) as_ bs h i = (h.0, zip_append R xs ys as_ bs h.1 i)

complete_either : (a b : Option Struct) → BothOr SameStruct a b → is_complete_struct a ≡ is_complete_struct b
complete_either (Some a) (Some b) h = h.complete
complete_either (Some a) None h = absurd h
complete_either None (Some b) h = absurd h
complete_either None None h = refl

pub same_complete : (structs others : List Struct) (ty : PlainType) → SameStructs structs others → is_complete structs ty ≡ is_complete others ty
same_complete structs others void h = refl
same_complete structs others (structure n) h = complete_either (slice_get structs n) (slice_get others n) (zip_at SameStruct structs others h n)
same_complete structs others _ h = refl

pub same_movable : (structs others : List Struct) (ty : PlainType) → SameStructs structs others → is_movable structs ty ≡ is_movable others ty
same_movable structs others (pointer_to (array_of t count)) h = refl
same_movable structs others (pointer_to t) h = same_complete structs others t h
same_movable structs others _ h = refl
