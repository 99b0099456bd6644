-- An identifier that stands for a name of file scope is written as this name: the name is visible at the end of the unit, and the reading has
-- it from the identifier that declares it.
use Rattle.std.proofs.Common.{◌≡◌, ℕ, Bool, true, false, List, [], ◌∷◌, ◌++◌, map, Option, Some, None, refl, ap, sym, ◌∙◌, subst, inl, inr, append_assoc, append-nil}
use Rattle.std.specs.Prelude.{if◌then◌else◌}
use Rattle.std.specs.List.{AllByRecursion}
use Rattle.std.specs.Cmp.Lexicographic.{bytes_decides}
use Rattle.std.proofs.lemmas.Bool.{false≢true}
use Rattle.std.proofs.lemmas.Option.{same_Some, none-some}
use Rattle.std.proofs.lemmas.List.Elements.{All-from_recursion, recursion_from_All}
use Rattle.c_tree.specs.Trees.{PlainTree, spelled}
use Rattle.core_meaning.specs.Checking.{Entity, local_entity, local_of_function, file_entity, struct_entity, member_entity, own_entity, Binding as JudgedBinding, fine}
use Rattle.core_meaning.specs.Entities.{Struct, FileName}
use Rattle.core_meaning.specs.Linking.{no_numbers}
use Rattle.core_meaning.specs.UnitNames.{UnitState}
use Rattle.tree_derivations.specs.Derivations.{UnitsAreDerived}
use Rattle.bindings.specs.Visible.{ordinary, Occurrence as BoundIdentifier}
use Rattle.bindings.specs.Bindings.{read_unit, bindings_of}
use Rattle.bindings.specs.Judged.{same_entity, Identified, first_with, identified}
use Rattle.bindings.specs.Laws.{IsWritten}
use Rattle.bindings.proofs.Histories.{recorded}
use Rattle.bindings.proofs.Items.{Bound, Binds}
use Rattle.bindings.proofs.FileObjects.{FileRel}
use Rattle.program_occurrences.specs.Occurrences.{Identifier, identifiers_from, with_entities, UnitNames, judged_bindings, names_of_unit, judged_behind, or_itself, occurrence_among, occurrences_of}
use Rattle.program_occurrences.specs.Laws.{identifier_of, IdentifiersAreBound}
use Rattle.bound_names.proofs.Steps.{HasName, looked-up}
use Rattle.bound_names.proofs.Readings.{unit-named}
use Rattle.occurrence_names.specs.Laws.{KeepsName, OccurrencesKeepNames, IsTextOf, FileNamesAreWritten}
use Rattle.occurrence_names.proofs.Kept.{In, in-map, one-number}
use Rattle.occurrence_names.proofs.Units.{written_read}

-- ---- the identifiers of a unit with their entities

recorded-is : (before : List Identified) (os : List BoundIdentifier) (js : List JudgedBinding) → recorded before os js ≡ before ++ with_entities (map identifier_of os) js
recorded-is before [] js = sym (append-nil before)
recorded-is before (o ∷ os) [] = sym (append-nil before)
recorded-is before (o ∷ os) (j ∷ js) = recorded-is (before ++ identified o j ∷ []) os js ∙ append_assoc before (identified o j ∷ []) (with_entities (map identifier_of os) js)

-- the identifier without its entity
abbrev pub plain-of : Identified → Identifier
plain-of i = record { number = i.number; token = i.token }

pub among-plain : (is : List Identifier) (js : List JudgedBinding) (i : Identified) → In i (with_entities is js) → In (plain-of i) is
among-plain [] js i a = absurd a
among-plain (x ∷ is) [] i a = absurd a
among-plain (x ∷ is) (j ∷ js) i (inl e) = inl (ap plain-of e)
among-plain (x ∷ is) (j ∷ js) i (inr a) = inr (among-plain is js i a)

-- ---- the first that stands for a name

first-is-among : (e : Entity) (all : List Identified) (i : Identified) → first_with e all ≡ Some i → In i all
first-is-among e [] i f = absurd (none-some i f)
first-is-among e (x ∷ rest) i f = by (same_entity x.entity e) f (first-is-among e rest i)
  where
    by : (b : Bool) → (if b then Some x else first_with e rest) ≡ Some i → (first_with e rest ≡ Some i → In i rest) → In i (x ∷ rest)
    by true f later = inl (sym (same_Some x i f))
    by false f later = inr (later f)

same-file-entity : (name : List ℕ) (e : Entity) → e ≡ file_entity name → same_entity e (file_entity name) ≡ true
same-file-entity name e is = ap (λ x. same_entity x (file_entity name)) is ∙ (bytes_decides name name).1 refl

some-first : (name : List ℕ) (all : List Identified) (i : Identified) → In i all → i.entity ≡ file_entity name → first_with (file_entity name) all ≡ None → ⊥
some-first name [] i a is none = a
some-first name (x ∷ rest) i a is none = by (same_entity x.entity (file_entity name)) refl none (some-first name rest i)
  where
    later :
        In i (x ∷ rest) → same_entity x.entity (file_entity name) ≡ false → first_with (file_entity name) rest ≡ None
        → (In i rest → i.entity ≡ file_entity name → first_with (file_entity name) rest ≡ None → ⊥) → ⊥
    later (inl e) other f further = false≢true (sym other ∙ same-file-entity name x.entity (ap (λ (y : Identified). y.entity) (sym e) ∙ is))
    later (inr b) other f further = further b is f

    by :
        (b : Bool) → same_entity x.entity (file_entity name) ≡ b → (if b then Some x else first_with (file_entity name) rest) ≡ None
        → (In i rest → i.entity ≡ file_entity name → first_with (file_entity name) rest ≡ None → ⊥) → ⊥
    by true e f further = none-some x (sym f)
    by false e f further = later a e f further

-- ---- a unit

module _ (derived : UnitsAreDerived) (found : IdentifiersAreBound) (kept : OccurrencesKeepNames) (tree : PlainTree) (written : IsWritten tree) (structs : List Struct) (state : UnitState) (js : List JudgedBinding) (judged : judged_behind structs tree ≡ fine state js) where
  abbrev unit : UnitNames
  unit = names_of_unit tree (judged_behind structs tree)

  abbrev identifiers : List Identifier
  identifiers = identifiers_from 0 (spelled tree)

  bound : Bound [] [] (bindings_of tree) js (λ g. FileRel state.scope (read_unit tree) g)
  bound = subst (Binds [] [] (bindings_of tree) (λ x g. FileRel x.scope (read_unit tree) g)) judged (written_read derived tree written 0 structs (no_numbers 0))

  all-recorded : recorded [] bound.os js ≡ unit.identified
  all-recorded =
      ap (λ os. recorded [] os js) (sym bound.is)
      ∙ (recorded-is [] (bindings_of tree) js
      ∙ (ap (λ is. with_entities is js) (found tree written.unit) ∙ ap (λ c. with_entities identifiers (judged_bindings c)) (sym judged)))

  pub visible : FileRel state.scope (read_unit tree) unit.identified
  visible = subst (FileRel state.scope (read_unit tree)) all-recorded bound.after

  -- the first that stands for a name of file scope has this name
  first-named : (name : List ℕ) (by : Identified) → first_with (file_entity name) unit.identified ≡ Some by → HasName (bindings_of tree) name by.number → by.token.text ≡ name
  first-named name by first h =
      let own : In (plain-of by) identifiers = among-plain identifiers (judged_bindings (judged_behind structs tree)) by (first-is-among (file_entity name) unit.identified by first) in
      let other : In (identifier_of h.identifier) identifiers = subst (In (identifier_of h.identifier)) (found tree written.unit) (in-map identifier_of h.identifier (bindings_of tree) h.among) in
      ap (λ (x : Identifier). x.token.text) (one-number 0 (spelled tree) (plain-of by) (identifier_of h.identifier) (sym h.number_is) own other) ∙ h.name_is

  visible-named : (name : List ℕ) (o : Option FileName) → state.scope.file_names name ≡ o → (by : Identified) → first_with (file_entity name) unit.identified ≡ Some by → by.token.text ≡ name
  visible-named name None none by first = absurd (none-some by (sym (visible.no_first name none refl) ∙ first))
  visible-named name (Some n) some by first =
      let f = visible.names name n some in
      let same : f.found.by ≡ by = same_Some f.found.by by (sym f.found.first ∙ first) in
      first-named name by first
      (subst (HasName (bindings_of tree) name) (ap (λ (x : Identified). x.number) same)
      (looked-up (bindings_of tree) ordinary name (read_unit tree).file f.found.by.number (unit-named tree).file f.found.entry))

  named : (name : List ℕ) (i : Identified) → In i unit.identified → i.entity ≡ file_entity name → (first : Option Identified) → first_with i.entity unit.identified ≡ first → (or_itself i first).token.text ≡ name
  named name i among is None none = absurd (some-first name unit.identified i among is (subst (λ e. first_with e unit.identified ≡ None) is none))
  named name i among is (Some by) some = visible-named name (state.scope.file_names name) refl by (subst (λ e. first_with e unit.identified ≡ Some by) is some)

  text-of : (e : Entity) (i : Identified) → i.entity ≡ e → In i unit.identified → KeepsName (occurrence_among unit.identified i) → IsTextOf e i.token.text
  text-of (file_entity name) i is among keeps = keeps ∙ named name i among is (first_with i.entity unit.identified) refl
  text-of (local_entity slot) i is among keeps = tt
  text-of (local_of_function f slot) i is among keeps = tt
  text-of (struct_entity n) i is among keeps = tt
  text-of (member_entity s n) i is among keeps = tt
  text-of own_entity i is among keeps = tt

  each-written :
      (is : List Identified) → ((i : Identified) → In i is → In i unit.identified) → AllByRecursion KeepsName (map (occurrence_among unit.identified) is)
      → AllByRecursion (λ o. IsTextOf o.identifier.entity o.identifier.token.text) (map (occurrence_among unit.identified) is)
  each-written [] among keeps = tt
  each-written (i ∷ is) among keeps = (text-of i.entity i refl (among i (inl refl)) keeps.0, each-written is (λ x a. among x (inr a)) keeps.1)

  all-written : AllByRecursion (λ o. IsTextOf o.identifier.entity o.identifier.token.text) (occurrences_of unit)
  all-written = each-written unit.identified (λ i a. a) (recursion_from_All KeepsName (occurrences_of unit) (kept tree written structs state js judged))

pub names-written : UnitsAreDerived → IdentifiersAreBound → OccurrencesKeepNames → FileNamesAreWritten
names-written derived found kept tree written structs state js judged =
    All-from_recursion (λ o. IsTextOf o.identifier.entity o.identifier.token.text) (occurrences_of (names_of_unit tree (judged_behind structs tree)))
    (all-written derived found kept tree written structs state js judged)
