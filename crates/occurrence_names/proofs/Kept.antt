-- An occurrence has the name of what declares it: both are told by their numbers.
use Rattle.std.proofs.Common.{◌≡◌, ℕ, zero, suc, ◌+◌, ◌<◌, ◌≤◌, Bool, true, false, List, [], ◌∷◌, map, refl, ap, sym, ◌∙◌, subst, inl, inr, arith}
use Rattle.std.specs.Prelude.{◌⊎◌, Contains, if◌then◌else◌, slice_index_or, length}
use Rattle.std.specs.List.{AllByRecursion, AllZip}
use Rattle.std.proofs.lemmas.List.Elements.{All-from_recursion, recursion_from_All}
use Rattle.c_text.specs.Token.{PlainToken}
use Rattle.c_tree.specs.Trees.{PlainTree, spelled}
use Rattle.core_meaning.specs.Checking.{Entity, local_entity, local_of_function, file_entity, struct_entity, member_entity, own_entity, Binding, fine}
use Rattle.core_meaning.specs.Entities.{Struct}
use Rattle.core_meaning.specs.Linking.{no_numbers}
use Rattle.core_meaning.specs.UnitNames.{UnitState}
use Rattle.bindings.specs.Visible.{bound_to, undeclared, member_use, Binding as Bound, Occurrence as BoundIdentifier}
use Rattle.bindings.specs.Bindings.{is_name, bindings_of}
use Rattle.bindings.specs.Judged.{Identified}
use Rattle.bindings.specs.Laws.{IsWritten}
use Rattle.program_occurrences.specs.Occurrences.{Identifier, identifiers_from, with_entities, UnitNames, judged_bindings, names_of_unit, judged_behind, Occurrence, occurrence_among, occurrences_of}
use Rattle.program_occurrences.specs.Laws.{DeclarationsAreOccurrences, identifier_of, IdentifiersAreBound, IsBoundTo, IsBoundBy, IsOccurrenceOf, OccurrencesAreBound}
use Rattle.bound_names.specs.Laws.{IsNamed, IsBoundToName, IdentifiersKeepNames}
use Rattle.entity_numbers.specs.Bound.{IsOfUnit, AreOfUnit}
use Rattle.bound_slots.specs.Laws.{SlotsAreOfFunctions}
use Rattle.occurrence_names.specs.Laws.{KeepsName, OccurrencesKeepNames}

abbrev pub In : {X : Type 0} → X → List X → Type 0
In x [] = ⊥
In x (y ∷ ys) = (x ≡ y) ⊎ In x ys

in-at : {X : Type 0} (x : X) (xs : List X) (k : ℕ) → k < length xs → slice_index_or xs k x ≡ x → In x xs
in-at x [] k h e = absurd (omega (arith, h))
in-at x (y ∷ xs) zero h e = inl (sym e)
in-at x (y ∷ xs) (suc k) h e = inr (in-at x xs k (omega (arith, h)) e)

pub in-of : {X : Type 0} (x : X) (xs : List X) → Contains xs x → In x xs
in-of x xs c = in-at x xs c.0 c.1 c.2

pub in-map : {X Y : Type 0} (f : X → Y) (x : X) (xs : List X) → In x xs → In (f x) (map f xs)
in-map f x [] i = absurd i
in-map f x (y ∷ xs) (inl e) = inl (ap f e)
in-map f x (y ∷ xs) (inr i) = inr (in-map f x xs i)

-- ---- the identifiers of a unit are told by their numbers

low-by : (n : ℕ) (first : PlainToken) (rest : List PlainToken) (i : Identifier) (b : Bool) → (In i (identifiers_from (n + 1) rest) → n + 1 ≤ i.number) → In i (if b then record { number = n; token = first } ∷ identifiers_from (n + 1) rest else identifiers_from (n + 1) rest) → n ≤ i.number
low-by n first rest i true later (inl e) = let same : i.number ≡ n = ap (λ (x : Identifier). x.number) e in omega (arith, same)
low-by n first rest i true later (inr more) = let l = later more in omega (arith, l)
low-by n first rest i false later more = let l = later more in omega (arith, l)

low : (n : ℕ) (tokens : List PlainToken) (i : Identifier) → In i (identifiers_from n tokens) → n ≤ i.number
low n [] i among = absurd among
low n (first ∷ rest) i among = low-by n first rest i (is_name first) (low (n + 1) rest i) among

one-by : (n : ℕ) (first : PlainToken) (rest : List PlainToken) (i j : Identifier) (b : Bool) → i.number ≡ j.number → (In i (identifiers_from (n + 1) rest) → In j (identifiers_from (n + 1) rest) → i ≡ j)
    → In i (if b then record { number = n; token = first } ∷ identifiers_from (n + 1) rest else identifiers_from (n + 1) rest)
    → In j (if b then record { number = n; token = first } ∷ identifiers_from (n + 1) rest else identifiers_from (n + 1) rest) → i ≡ j
one-by n first rest i j true e later (inl a) (inl c) = a ∙ sym c
one-by n first rest i j true e later (inl a) (inr c) =
    let here : i.number ≡ n = ap (λ (x : Identifier). x.number) a in let above = low (n + 1) rest j c in absurd (omega (arith, here, above, e))
one-by n first rest i j true e later (inr a) (inl c) =
    let here : j.number ≡ n = ap (λ (x : Identifier). x.number) c in let above = low (n + 1) rest i a in absurd (omega (arith, here, above, e))
one-by n first rest i j true e later (inr a) (inr c) = later a c
one-by n first rest i j false e later a c = later a c

pub one-number : (n : ℕ) (tokens : List PlainToken) (i j : Identifier) → i.number ≡ j.number → In i (identifiers_from n tokens) → In j (identifiers_from n tokens) → i ≡ j
one-number n [] i j e a c = absurd a
one-number n (first ∷ rest) i j e a c = one-by n first rest i j (is_name first) e (one-number (n + 1) rest i j e) a c

-- ---- occurrences and bindings, one by one

record IsPaired (all : List Identified) (bs : List BoundIdentifier) (o : Occurrence) : Type 0 where
  bound : BoundIdentifier
  among : In bound bs
  is : IsOccurrenceOf all bound o

paired : (all : List Identified) (bs : List BoundIdentifier) (os : List Occurrence) (o : Occurrence) → AllZip (IsOccurrenceOf all) bs os → In o os → IsPaired all bs o
paired all [] [] o z i = absurd i
paired all [] (p ∷ os) o z i = absurd z
paired all (b ∷ bs) [] o z i = absurd z
paired all (b ∷ bs) (p ∷ os) o z (inl e) = record { bound = b; among = inl refl; is = subst (IsOccurrenceOf all b) (sym e) z.0 }
paired all (b ∷ bs) (p ∷ os) o z (inr i) = let l = paired all bs os o z.1 i in record { bound = l.bound; among = inr l.among; is = l.is }

pub at : {X : Type 0} (P : X → Type 0) (x : X) (xs : List X) → AllByRecursion P xs → In x xs → P x
at P x [] a i = absurd i
at P x (y ∷ xs) a (inl e) = subst P (sym e) a.0
at P x (y ∷ xs) a (inr i) = at P x xs a.1 i

-- what is no free slot is bound to what declares it
bound-by : (all : List Identified) (b : Bound) (o : Occurrence) (e : Entity) → IsOfUnit e → IsBoundBy all b o e → IsBoundTo all b o
bound-by all b o (local_entity slot) plain is = absurd plain
bound-by all b o (local_of_function f slot) plain is = is
bound-by all b o (file_entity name) plain is = is
bound-by all b o (struct_entity n) plain is = is
bound-by all b o (member_entity s n) plain is = is
bound-by all b o own_entity plain is = is

named-by : (all : List Identified) (bs : List BoundIdentifier) (name : List ℕ) (b : Bound) (o : Occurrence) → IsBoundTo all b o → IsBoundToName bs name b → IsNamed bs name o.declared_by.number
named-by all bs name (bound_to by) o is named = subst (IsNamed bs name) is named
named-by all bs name undeclared o is named = absurd is
named-by all bs name (member_use which) o is named = named is.tag.token.text o.declared_by.number is.bound

-- no occurrence stands for a free slot where no identifier is bound to one
identified-free : (is : List Identifier) (js : List Binding) (i : Identified) → AreOfUnit js → In i (with_entities is js) → IsOfUnit i.entity
identified-free [] js i free among = absurd among
identified-free (first ∷ is) [] i free among = absurd among
identified-free (first ∷ is) (j ∷ js) i free (inl e) = subst (λ (x : Identified). IsOfUnit x.entity) (sym e) free.0
identified-free (first ∷ is) (j ∷ js) i free (inr more) = identified-free is js i free.1 more

occurrence-free : (all is : List Identified) (o : Occurrence) → ((i : Identified) → In i is → IsOfUnit i.entity) → In o (map (occurrence_among all) is) → IsOfUnit o.identifier.entity
occurrence-free all [] o free among = absurd among
occurrence-free all (i ∷ is) o free (inl e) = subst (λ (x : Occurrence). IsOfUnit x.identifier.entity) (sym e) (free i (inl refl))
occurrence-free all (i ∷ is) o free (inr more) = occurrence-free all is o (λ x among. free x (inr among)) more

module _ (declared : DeclarationsAreOccurrences) (identified : IdentifiersAreBound) (bound : OccurrencesAreBound) (kept : IdentifiersKeepNames) (slots : SlotsAreOfFunctions) (tree : PlainTree) (written : IsWritten tree) (structs : List Struct) (state : UnitState) (js : List Binding) (judged : judged_behind structs tree ≡ fine state js) where
  abbrev unit : UnitNames
  unit = names_of_unit tree (judged_behind structs tree)

  zipped : AllZip (IsOccurrenceOf unit.identified) (bindings_of tree) (occurrences_of unit)
  zipped = bound tree written structs state js judged

  pair : (o : Occurrence) → In o (occurrences_of unit) → IsPaired unit.identified (bindings_of tree) o
  pair o i = paired unit.identified (bindings_of tree) (occurrences_of unit) o zipped i

  -- two identifiers with one number are one token
  one-token : (a b : BoundIdentifier) → In a (bindings_of tree) → In b (bindings_of tree) → a.number ≡ b.number → a.token ≡ b.token
  one-token a b i j e =
      let all : map identifier_of (bindings_of tree) ≡ identifiers_from 0 (spelled tree) = identified tree written.unit in
      ap (λ (x : Identifier). x.token)
      (one-number 0 (spelled tree) (identifier_of a) (identifier_of b) e
      (subst (In (identifier_of a)) all (in-map identifier_of a (bindings_of tree) i)) (subst (In (identifier_of b)) all (in-map identifier_of b (bindings_of tree) j)))

  free : (o : Occurrence) → In o (occurrences_of unit) → IsOfUnit o.identifier.entity
  free o i =
      occurrence-free unit.identified unit.identified o
      (λ x among. identified-free (identifiers_from 0 (spelled tree)) (judged_bindings (judged_behind structs tree)) x
      (subst (λ c. AreOfUnit (judged_bindings c)) (sym judged) (slots tree 0 structs (no_numbers 0) state js judged)) among) i

  keeps : (o : Occurrence) → In o (occurrences_of unit) → Contains (occurrences_of unit) o → KeepsName o
  keeps o i c =
      let own = pair o i in
      let named : IsNamed (bindings_of tree) own.bound.token.text o.declared_by.number =
      named-by unit.identified (bindings_of tree) own.bound.token.text own.bound.binding o
      (bound-by unit.identified own.bound.binding o o.identifier.entity (free o i) own.is.bound)
      (at (λ b. IsBoundToName (bindings_of tree) b.token.text b.binding) own.bound (bindings_of tree)
      (recursion_from_All (λ b. IsBoundToName (bindings_of tree) b.token.text b.binding) (bindings_of tree) (kept tree)) own.among) in
      let d = declared unit o c in
      let first = pair d.declaration (in-of d.declaration (occurrences_of unit) d.among) in
      let number : first.bound.number ≡ named.identifier.number =
      sym first.is.number ∙ (ap (λ (x : Identified). x.number) d.identifier ∙ sym named.number_is) in
      let token : first.bound.token ≡ named.identifier.token =
      one-token first.bound named.identifier first.among (in-of named.identifier (bindings_of tree) named.among) number in
      ap (λ (x : PlainToken). x.text) own.is.token
      ∙ (sym named.name_is ∙ (ap (λ (x : PlainToken). x.text) (sym token)
      ∙ (ap (λ (x : PlainToken). x.text) (sym first.is.token) ∙ ap (λ (x : Identified). x.token.text) d.identifier)))

  each : (os : List Occurrence) → ((o : Occurrence) → In o os → In o (occurrences_of unit)) → ((o : Occurrence) → In o os → Contains (occurrences_of unit) o) → AllByRecursion KeepsName os
  each [] among there = tt
  each (o ∷ os) among there = (keeps o (among o (inl refl)) (there o (inl refl)), each os (λ p i. among p (inr i)) (λ p i. there p (inr i)))

contains-of : {X : Type 0} (x : X) (xs : List X) → In x xs → Contains xs x
contains-of x [] i = absurd i
contains-of x (y ∷ xs) (inl e) = (0, omega arith, sym e)
contains-of x (y ∷ xs) (inr i) = let c = contains-of x xs i in (suc c.0, omega (arith, c.1), c.2)

pub names-kept : DeclarationsAreOccurrences → IdentifiersAreBound → OccurrencesAreBound → IdentifiersKeepNames → SlotsAreOfFunctions → OccurrencesKeepNames
names-kept declared identified bound kept slots tree written structs state js judged =
    All-from_recursion KeepsName (occurrences_of (names_of_unit tree (judged_behind structs tree)))
    (each declared identified bound kept slots tree written structs state js judged (occurrences_of (names_of_unit tree (judged_behind structs tree)))
    (λ o i. i) (λ o i. contains-of o (occurrences_of (names_of_unit tree (judged_behind structs tree))) i))
