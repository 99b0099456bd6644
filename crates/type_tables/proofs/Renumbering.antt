-- Types whose structs are there are the same where only other structs get other numbers.
use Rattle.std.proofs.Common.{◌≡◌, ℕ, Bool, true, false, List, [], ◌∷◌, refl, sym, ap, ◌∙◌}
use Rattle.std.specs.Prelude.{◌==◌, map, Option, Some, None, slice_get, if◌then◌else◌}
use Rattle.std.proofs.lemmas.Bool.{eq-eqb, ne_eqb, eqb-true}
use Rattle.c_types.specs.Types.{PlainType, void, char, unsigned_char, int, unsigned_int, long, unsigned_long, pointer_to, array_of, structure}
use Rattle.c_types.specs.Tags.{PlainMember}
use Rattle.core_meaning.specs.Entities.{Struct, Signature}
use Rattle.core_meaning.specs.Entities as scopes
use Rattle.operand_types.specs.OperandTypes.{renumbered}
use Rattle.operand_types.specs.Laws.{KeepsApart}
use Rattle.type_tables.specs.Tables.{Local, Sort, object, declared_function, FileName}
use Rattle.type_tables.specs.Follows.{IsThere, AreThere, types_of, renumbered_member, renumbered_signature, SortFollows, NameFollows, LocalFollows, SortIsThere}
use Rattle.type_tables.specs.Numbers.{NumbersKept}

abbrev a_member : List ℕ → PlainType → PlainMember
a_member name ty = record { name = name; ty = ty }

abbrev a_signature : PlainType → List PlainType → Signature
a_signature result parameters = record { result = result; parameters = parameters }

module _ (structs : List Struct) (by other : ℕ → ℕ) (kept : NumbersKept structs by other) where
  pub type_same : (ty : PlainType) → IsThere structs ty → renumbered by ty ≡ renumbered other ty
  type_same void there = refl
  type_same char there = refl
  type_same unsigned_char there = refl
  type_same int there = refl
  type_same unsigned_int there = refl
  type_same long there = refl
  type_same unsigned_long there = refl
  type_same (pointer_to ty) there = ap pointer_to (type_same ty there)
  type_same (array_of ty count) there = ap (λ t. array_of t count) (type_same ty there)
  type_same (structure n) there = let found = there n refl in ap structure (kept n found.0 found.1)

  pub types_same : (types : List PlainType) → AreThere structs types → map (renumbered by) types ≡ map (renumbered other) types
  types_same [] there = refl
  types_same (ty ∷ types) there = ap (λ t. t ∷ map (renumbered by) types) (type_same ty there.0) ∙ ap (λ (l : List PlainType). renumbered other ty ∷ l) (types_same types there.1)

  pub members_same : (ms : List PlainMember) → AreThere structs (types_of ms) → map (renumbered_member by) ms ≡ map (renumbered_member other) ms
  members_same [] there = refl
  members_same (m ∷ ms) there =
      ap (λ t. a_member m.name t ∷ map (renumbered_member by) ms) (type_same m.ty there.0)
      ∙ ap (λ (l : List PlainMember). renumbered_member other m ∷ l) (members_same ms there.1)

  signature_same : (f : Signature) → IsThere structs f.result → AreThere structs f.parameters → renumbered_signature by f ≡ renumbered_signature other f
  signature_same f there parameters =
      ap (λ t. a_signature t (map (renumbered by) f.parameters)) (type_same f.result there)
      ∙ ap (a_signature (renumbered other f.result)) (types_same f.parameters parameters)

  sort_follows : (signatures : ℕ → Signature) (sort : scopes.Sort) (o : Sort) → SortIsThere structs sort → SortFollows by signatures sort o → SortFollows other signatures sort o
  sort_follows signatures (scopes.variable ty) (object t) there h = h ∙ type_same ty there
  sort_follows signatures (scopes.variable ty) (declared_function number) there h = h
  sort_follows signatures (scopes.function f) (object t) there h = h
  sort_follows signatures (scopes.function f) (declared_function number) there h = h ∙ signature_same f there.0 there.1

  pub name_follows : (signatures : ℕ → Signature) (n : Option scopes.FileName) (o : Option FileName) → ((x : scopes.FileName) → n ≡ Some x → SortIsThere structs x.sort)
      → NameFollows by signatures n o → NameFollows other signatures n o
  name_follows signatures None None there h = h
  name_follows signatures None (Some o) there h = h
  name_follows signatures (Some n) None there h = h
  name_follows signatures (Some n) (Some o) there h = (sort_follows signatures n.sort o.sort (there n refl) h.0, h.1)

  pub local_follows : (l : Option scopes.Local) (o : Option Local) → ((x : scopes.Local) → l ≡ Some x → IsThere structs x.ty) → LocalFollows by l o → LocalFollows other l o
  local_follows None None there h = h
  local_follows None (Some o) there h = h
  local_follows (Some l) None there h = h
  local_follows (Some l) (Some o) there h = h ∙ type_same l.ty (there l refl)

-- what is there stays there where structs are added
abbrev pub Has : List Struct → List Struct → Type 0
Has structs more = (n : ℕ) (s : Struct) → slice_get structs n ≡ Some s → (s : Struct) × (slice_get more n ≡ Some s)

pub still_there : (structs more : List Struct) → Has structs more → (ty : PlainType) → IsThere structs ty → IsThere more ty
still_there structs more has ty there n e = let found = there n e in has n found.0 found.1

pub all_still_there : (structs more : List Struct) → Has structs more → (types : List PlainType) → AreThere structs types → AreThere more types
all_still_there structs more has [] there = tt
all_still_there structs more has (ty ∷ types) there = (still_there structs more has ty there.0, all_still_there structs more has types there.1)

pub sort_still_there : (structs more : List Struct) → Has structs more → (sort : scopes.Sort) → SortIsThere structs sort → SortIsThere more sort
sort_still_there structs more has (scopes.variable ty) there = still_there structs more has ty there
sort_still_there structs more has (scopes.function f) there = (still_there structs more has f.result there.0, all_still_there structs more has f.parameters there.1)

-- ---- numbers that change places

abbrev pub swapped : ℕ → ℕ → ℕ → ℕ
swapped a b x = if x == a then b else if x == b then a else x

pub swapped_first : (a b : ℕ) → swapped a b a ≡ b
swapped_first a b = ap (λ t. if t then b else if a == b then a else a) (eq-eqb a a refl)

pub swapped_second : (a b : ℕ) → swapped a b b ≡ a
swapped_second a b = by (b == a) refl
  where
    by : (t : Bool) → (b == a) ≡ t → (if t then b else if b == b then a else b) ≡ a
    by true e = eqb-true b a e
    by false e = ap (λ t. if t then a else b) (eq-eqb b b refl)

pub swapped_other : (a b x : ℕ) → (x ≡ a → ⊥) → (x ≡ b → ⊥) → swapped a b x ≡ x
swapped_other a b x h i = ap (λ t. if t then b else if x == b then a else x) (ne_eqb x a h) ∙ ap (λ t. if t then a else x) (ne_eqb x b i)

swapped_back : (a b x : ℕ) → swapped a b (swapped a b x) ≡ x
swapped_back a b x = by (x == a) refl
  where
    or_not : (t : Bool) → (x == a) ≡ false → (x == b) ≡ t → swapped a b (if t then a else x) ≡ x
    or_not true e h = swapped_first a b ∙ sym (eqb-true x b h)
    or_not false e h = ap (λ t. if t then b else if x == b then a else x) e ∙ ap (λ t. if t then a else x) h

    by : (t : Bool) → (x == a) ≡ t → swapped a b (if t then b else if x == b then a else x) ≡ x
    by true e = swapped_second a b ∙ sym (eqb-true x a e)
    by false e = or_not (x == b) e refl

same_test : (b c : Bool) → (b ≡ true → c ≡ true) → (c ≡ true → b ≡ true) → b ≡ c
same_test true c h i = sym (h refl)
same_test false true h i = i refl
same_test false false h i = refl

pub swapped_apart : (a b : ℕ) (by : ℕ → ℕ) → KeepsApart by → KeepsApart (λ n. swapped a b (by n))
swapped_apart a b by keeps = record {
  apart = λ m n.
      same_test (swapped a b (by m) == swapped a b (by n)) (m == n)
      (λ e. sym (keeps.apart m n) ∙ eq-eqb (by m) (by n) (sym (swapped_back a b (by m)) ∙ ap (swapped a b) (eqb-true (swapped a b (by m)) (swapped a b (by n)) e) ∙ swapped_back a b (by n)))
      (λ e. eq-eqb (swapped a b (by m)) (swapped a b (by n)) (ap (λ n. swapped a b (by n)) (eqb-true m n e)));
}
