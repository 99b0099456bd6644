-- The occurrences of a unit are what its bindings say.
use Rattle.std.proofs.Common.{◌≡◌, ℕ, ◌==◌, Bool, true, false, ◌&&◌, List, [], ◌∷◌, ◌++◌, map, Option, Some, None, refl, ap, ap₂, sym, ◌∙◌, subst, append_assoc, bytes_eq, eq-eqb}
use Rattle.std.specs.Prelude.{if◌then◌else◌}
use Rattle.std.specs.List.{AllZip}
use Rattle.std.proofs.lemmas.Slice.Eq.{bytes_eq-Decides}
use Rattle.core_meaning.specs.Checking.{Entity, local_entity, local_of_function, file_entity, struct_entity, member_entity, own_entity, Binding as JudgedBinding}
use Rattle.core_meaning.specs.Linking.{no_numbers}
use Rattle.tree_derivations.specs.Derivations.{UnitsAreDerived}
use Rattle.bindings.specs.Visible.{Binding, bound_to, undeclared, member_use, Occurrence as BoundIdentifier}
use Rattle.bindings.specs.Bindings.{bindings_of}
use Rattle.bindings.specs.Judged.{same_entity, Identified, first_with, number_or, struct_of, IsBoundAlike, IsAlike, identified, AreAlike}
use Rattle.bindings.specs.Laws.{JudgementsBindAlike}
use Rattle.program_occurrences.specs.Occurrences.{with_entities, names_of_unit, or_itself, occurrence_among, occurrences_of}
use Rattle.program_occurrences.specs.Laws.{identifier_of, IsBoundTo, IsBoundBy, IsOccurrenceOf, IdentifiersAreBound, OccurrencesAreBound}
use Rattle.program_occurrences.proofs.Identifiers.{identifiers_found}

-- ---- the first with an entity

found_on : (e : Entity) (before rest : List Identified) (d : Identified) → first_with e before ≡ Some d → first_with e (before ++ rest) ≡ Some d
found_on e [] rest d f = absurd cc
found_on e (i ∷ before) rest d f = by (same_entity i.entity e) f (λ g. found_on e before rest d g)
  where
    by : (b : Bool) → (if b then Some i else first_with e before) ≡ Some d → (first_with e before ≡ Some d → first_with e (before ++ rest) ≡ Some d) → (if b then Some i else first_with e (before ++ rest)) ≡ Some d
    by true f on = f
    by false f on = on f

none_on : (e : Entity) (before rest : List Identified) → first_with e before ≡ None → first_with e (before ++ rest) ≡ first_with e rest
none_on e [] rest f = refl
none_on e (i ∷ before) rest f = by (same_entity i.entity e) f (λ g. none_on e before rest g)
  where
    by : (b : Bool) → (if b then Some i else first_with e before) ≡ None → (first_with e before ≡ None → first_with e (before ++ rest) ≡ first_with e rest) → (if b then Some i else first_with e (before ++ rest)) ≡ first_with e rest
    by true f on = absurd cc
    by false f on = on f

no_own : (x : Entity) → same_entity x own_entity ≡ false
no_own (local_entity slot) = refl
no_own (local_of_function f slot) = refl
no_own (file_entity name) = refl
no_own (struct_entity n) = refl
no_own (member_entity s n) = refl
no_own own_entity = refl

none_of_own : (all : List Identified) → first_with own_entity all ≡ None
none_of_own [] = refl
none_of_own (i ∷ rest) = ap (λ b. if b then Some i else first_with own_entity rest) (no_own i.entity) ∙ none_of_own rest

same_number : (n : ℕ) → n == n ≡ true
same_number n = eq-eqb n n refl

same_name : (name : List ℕ) → bytes_eq name name ≡ true
same_name name = let d = bytes_eq-Decides name name in d.1 refl

-- an identifier is the first of itself, if there is none before; where no other stands for its entity, there is none at all
here : (i : Identified) (rest : List Identified) (e : Entity) → i.entity ≡ e → or_itself i (first_with e (i ∷ rest)) ≡ i
here i rest own_entity is = ap (or_itself i) (none_of_own (i ∷ rest))
here i rest (local_entity slot) is = by (same_number slot)
  where
    by : (slot == slot ≡ true) → or_itself i (first_with (local_entity slot) (i ∷ rest)) ≡ i
    by s = ap (λ b. or_itself i (if b then Some i else first_with (local_entity slot) rest)) (ap (λ x. same_entity x (local_entity slot)) is ∙ s)
here i rest (local_of_function f slot) is =
    ap (λ b. or_itself i (if b then Some i else first_with (local_of_function f slot) rest))
    (ap (λ x. same_entity x (local_of_function f slot)) is ∙ ap₂ (λ a b. a && b) (same_number f) (same_number slot))
here i rest (file_entity name) is =
    ap (λ b. or_itself i (if b then Some i else first_with (file_entity name) rest)) (ap (λ x. same_entity x (file_entity name)) is ∙ same_name name)
here i rest (struct_entity n) is =
    ap (λ b. or_itself i (if b then Some i else first_with (struct_entity n) rest)) (ap (λ x. same_entity x (struct_entity n)) is ∙ same_number n)
here i rest (member_entity s n) is =
    ap (λ b. or_itself i (if b then Some i else first_with (member_entity s n) rest))
    (ap (λ x. same_entity x (member_entity s n)) is ∙ ap₂ (λ a b. a && b) (same_number s) (same_number n))

declared_number :
    (i : Identified) (before rest : List Identified) (x : Option Identified) → first_with i.entity before ≡ x
    → (or_itself i (first_with i.entity (before ++ i ∷ rest))).number ≡ number_or x i.number
declared_number i before rest (Some d) f = ap (λ x. (or_itself i x).number) (found_on i.entity before (i ∷ rest) d f)
declared_number i before rest None f =
    ap (λ x. (or_itself i x).number) (none_on i.entity before (i ∷ rest) f) ∙ ap (λ (j : Identified). j.number) (here i rest i.entity refl)

-- ---- one identifier

bound_alike :
    (b : BoundIdentifier) (j : JudgedBinding) (before rest : List Identified) (binding : Binding)
    → IsBoundAlike before (record b { binding = binding }) j.entity
    → IsBoundTo (before ++ identified b j ∷ rest) binding (occurrence_among (before ++ identified b j ∷ rest) (identified b j))
bound_alike b j before rest (bound_to by) h = h ∙ sym (declared_number (identified b j) before rest (first_with j.entity before) refl)
bound_alike b j before rest undeclared h = h
bound_alike b j before rest (member_use which) h = record {
  tag = h.tag;
  declares_struct = found_on (struct_of j.entity) before (identified b j ∷ rest) h.tag h.declares_struct;
  bound =
      h.bound
      ∙ ap Some (sym (ap (λ x. (or_itself (identified b j) x).number) (found_on j.entity before (identified b j ∷ rest) h.member h.declares_member)));
}

bound_by :
    (b : BoundIdentifier) (j : JudgedBinding) (before rest : List Identified) (e : Entity) → j.entity ≡ e → IsAlike before b e
    → IsBoundBy (before ++ identified b j ∷ rest) b.binding (occurrence_among (before ++ identified b j ∷ rest) (identified b j)) e
bound_by b j before rest (local_entity slot) is h = tt
bound_by b j before rest (local_of_function f slot) is h = bound_alike b j before rest b.binding (subst (IsBoundAlike before b) (sym is) h)
bound_by b j before rest (file_entity name) is h = bound_alike b j before rest b.binding (subst (IsBoundAlike before b) (sym is) h)
bound_by b j before rest (struct_entity n) is h = bound_alike b j before rest b.binding (subst (IsBoundAlike before b) (sym is) h)
bound_by b j before rest (member_entity s n) is h = bound_alike b j before rest b.binding (subst (IsBoundAlike before b) (sym is) h)
bound_by b j before rest own_entity is h = bound_alike b j before rest b.binding (subst (IsBoundAlike before b) (sym is) h)

-- ---- all of them

abbrev pairs : List BoundIdentifier → List JudgedBinding → List Identified
pairs [] js = []
pairs (b ∷ bs) [] = []
pairs (b ∷ bs) (j ∷ js) = identified b j ∷ pairs bs js

paired : (bs : List BoundIdentifier) (js : List JudgedBinding) → with_entities (map identifier_of bs) js ≡ pairs bs js
paired [] js = refl
paired (b ∷ bs) [] = refl
paired (b ∷ bs) (j ∷ js) = ap (λ rest. identified b j ∷ rest) (paired bs js)

all_bound :
    (before : List Identified) (bs : List BoundIdentifier) (js : List JudgedBinding) → AreAlike before bs js → (all : List Identified)
    → all ≡ before ++ pairs bs js → AllZip (IsOccurrenceOf all) bs (map (occurrence_among all) (pairs bs js))
all_bound before [] [] h all e = tt
all_bound before [] (j ∷ js) h all e = absurd h
all_bound before (b ∷ bs) [] h all e = absurd h
all_bound before (b ∷ bs) (j ∷ js) h all e = (
  record {
    number = refl;
    token = refl;
    bound =
        subst (λ xs. IsBoundBy xs b.binding (occurrence_among xs (identified b j)) j.entity) (sym e)
        (bound_by b j before (pairs bs js) j.entity refl h.0);
  },
  all_bound (before ++ identified b j ∷ []) bs js h.1 all (e ∙ sym (append_assoc before (identified b j ∷ []) (pairs bs js))),
)

pub identifiers_are_bound : UnitsAreDerived → IdentifiersAreBound
identifiers_are_bound derive = identifiers_found derive

pub occurrences_are_bound : UnitsAreDerived → JudgementsBindAlike → OccurrencesAreBound
occurrences_are_bound derive alike tree is structs state js judged =
    subst
    (λ judged. AllZip (IsOccurrenceOf (names_of_unit tree judged).identified) (bindings_of tree) (occurrences_of (names_of_unit tree judged))) (sym judged)
    (subst (λ xs. AllZip (IsOccurrenceOf xs) (bindings_of tree) (map (occurrence_among xs) xs))
    (sym (paired (bindings_of tree) js) ∙ ap (λ is. with_entities is js) (identifiers_found derive tree is.unit))
    (all_bound [] (bindings_of tree) js (alike tree is 0 structs (no_numbers 0) state js judged) (pairs (bindings_of tree) js) refl))
