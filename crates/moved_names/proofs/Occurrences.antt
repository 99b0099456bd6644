-- What identifiers are bound and linked to that stand elsewhere.
use Rattle.std.proofs.Common.{◌≡◌, ℕ, ◌+◌, Bool, true, false, List, [], ◌∷◌, ◌++◌, map, flat_map, Option, Some, None, refl, ap, ap₂, ◌∙◌}
use Rattle.std.specs.Prelude.{if◌then◌else◌, option_map}
use Rattle.c_text.specs.Token.{PlainToken}
use Rattle.core_meaning.specs.Checking.{Entity, local_entity, local_of_function, file_entity, struct_entity, member_entity, own_entity}
use Rattle.bindings.specs.Judged.{Identified, same_entity, first_with}
use Rattle.program_occurrences.specs.Occurrences.{UnitNames, Occurrence, or_itself, occurrence_among, occurrences_of, declares_itself, CommonName, member_by, common_name, common_name_by}
use Rattle.program_occurrences.specs.Links.{BoundNumber, bound_numbers, LinkedDeclaration, linked_by, linked_declaration, linked_declarations, links_among, links_of}
use Rattle.moved_names.proofs.Names.{moved_identified, moved_names}

module _ (h : PlainToken → PlainToken) where
  -- ---- occurrences

  pub first-moved : (entity : Entity) (all : List Identified) → first_with entity (map (moved_identified h) all) ≡ option_map (moved_identified h) (first_with entity all)
  first-moved entity [] = refl
  first-moved entity (i ∷ rest) = by (same_entity i.entity entity) (first-moved entity rest)
    where
      by :
          (b : Bool) → first_with entity (map (moved_identified h) rest) ≡ option_map (moved_identified h) (first_with entity rest)
          → (if b then Some (moved_identified h i) else first_with entity (map (moved_identified h) rest)) ≡ option_map (moved_identified h) (if b then Some i else first_with entity rest)
      by true behind = refl
      by false behind = behind

  abbrev pub moved_occurrence : Occurrence → Occurrence
  moved_occurrence o = record { identifier = moved_identified h o.identifier; declared_by = moved_identified h o.declared_by }

  own-moved : (i : Identified) (first : Option Identified) → or_itself (moved_identified h i) (option_map (moved_identified h) first) ≡ moved_identified h (or_itself i first)
  own-moved i None = refl
  own-moved i (Some first) = refl

  occurrence-moved : (all : List Identified) (i : Identified) → occurrence_among (map (moved_identified h) all) (moved_identified h i) ≡ moved_occurrence (occurrence_among all i)
  occurrence-moved all i =
      ap (λ (by : Identified). let o : Occurrence = record { identifier = moved_identified h i; declared_by = by } in o)
      (ap (or_itself (moved_identified h i)) (first-moved i.entity all) ∙ own-moved i (first_with i.entity all))

  all-moved : (all some : List Identified) → map (occurrence_among (map (moved_identified h) all)) (map (moved_identified h) some) ≡ map moved_occurrence (map (occurrence_among all) some)
  all-moved all [] = refl
  all-moved all (i ∷ rest) = ap₂ (λ (o : Occurrence) (os : List Occurrence). o ∷ os) (occurrence-moved all i) (all-moved all rest)

  pub occurrences-moved : (unit : UnitNames) → occurrences_of (moved_names h unit) ≡ map moved_occurrence (occurrences_of unit)
  occurrences-moved unit = all-moved unit.identified unit.identified

  -- ---- names in common

  member-moved : (first : Option Identified) (text : List ℕ) → member_by (option_map (moved_identified h) first) text ≡ member_by first text
  member-moved None text = refl
  member-moved (Some first) text = refl

  name-by-moved : (unit : UnitNames) (text : List ℕ) (entity : Entity) → common_name_by (moved_names h unit) text entity ≡ common_name_by unit text entity
  name-by-moved unit text (file_entity name) = refl
  name-by-moved unit text (struct_entity number) = refl
  name-by-moved unit text (member_entity struct number) =
      ap (λ (first : Option Identified). member_by first text) (first-moved (struct_entity struct) unit.identified) ∙ member-moved (first_with (struct_entity struct) unit.identified) text
  name-by-moved unit text (local_entity number) = refl
  name-by-moved unit text (local_of_function function number) = refl
  name-by-moved unit text own_entity = refl

  pub name-moved : (unit : UnitNames) (i : Identified) → common_name (moved_names h unit) (moved_identified h i) ≡ common_name unit i
  name-moved unit i = name-by-moved unit i.token.text i.entity

  -- ---- numbers

  abbrev number_of : Occurrence → BoundNumber
  number_of o = record { identifier = o.identifier.number; declared_by = o.declared_by.number }

  numbers-moved : (os : List Occurrence) → map number_of (map moved_occurrence os) ≡ map number_of os
  numbers-moved [] = refl
  numbers-moved (o ∷ rest) = ap (λ (l : List BoundNumber). number_of o ∷ l) (numbers-moved rest)

  bound-moved : (unit : UnitNames) → bound_numbers (moved_names h unit) ≡ bound_numbers unit
  bound-moved unit = ap (map number_of) (occurrences-moved unit) ∙ numbers-moved (occurrences_of unit)

  pub all-bound-moved : (units : List UnitNames) → map bound_numbers (map (moved_names h) units) ≡ map bound_numbers units
  all-bound-moved [] = refl
  all-bound-moved (unit ∷ rest) = ap₂ (λ (b : List BoundNumber) (l : List (List BoundNumber)). b ∷ l) (bound-moved unit) (all-bound-moved rest)

  -- ---- links

  declaration-moved : (place : ℕ) (unit : UnitNames) (o : Occurrence) → linked_declaration place (moved_names h unit) (moved_occurrence o) ≡ linked_declaration place unit o
  declaration-moved place unit o =
      ap (λ (name : Option CommonName). if declares_itself o then linked_by place o.identifier.number name else []) (name-moved unit o.identifier)

  unit-linked : (place : ℕ) (unit : UnitNames) (os : List Occurrence) → flat_map (linked_declaration place (moved_names h unit)) (map moved_occurrence os) ≡ flat_map (linked_declaration place unit) os
  unit-linked place unit [] = refl
  unit-linked place unit (o ∷ rest) =
      ap₂ (λ (a b : List LinkedDeclaration). a ++ b) (declaration-moved place unit o) (unit-linked place unit rest)

  all-linked : (place : ℕ) (units : List UnitNames) → linked_declarations place (map (moved_names h) units) ≡ linked_declarations place units
  all-linked place [] = refl
  all-linked place (unit ∷ rest) =
      ap₂ (λ (a b : List LinkedDeclaration). a ++ b)
      (ap (flat_map (linked_declaration place (moved_names h unit))) (occurrences-moved unit) ∙ unit-linked place unit (occurrences_of unit))
      (all-linked (place + 1) rest)

  pub links-moved : (units : List UnitNames) → links_of (map (moved_names h) units) ≡ links_of units
  links-moved units = ap links_among (all-linked 0 units)
