-- What identifiers are bound and linked to, told by numbers, so that it can be compared before and after names change (ISO/IEC 9899:2011, 6.2.1,
-- 6.2.2).
use Rattle.std.specs.Prelude.{◌≡◌, ℕ, ◌+◌, List, [], ◌∷◌, ◌++◌, map, flat_map, Option, Some, None, if◌then◌else◌}
use Rattle.std.specs.Str.{bytes_eq}
use Rattle.core_meaning.specs.declared.program.BuiltIn.{BuiltIn}
use Rattle.core_meaning.specs.Linking.{built_in_named}
use Rattle.program_occurrences.specs.Occurrences.{UnitNames, Occurrence, occurrences_of, declares_itself, CommonName, external_name, common_name}

-- ---- what identifiers are bound to, by numbers, which no name tells

-- an identifier of a unit, and the one that declares it
pub record BoundNumber : Type 0 where
  pub identifier : ℕ
  pub declared_by : ℕ

abbrev pub bound_numbers : UnitNames → List BoundNumber
bound_numbers unit = map (λ o. record { identifier = o.identifier.number; declared_by = o.declared_by.number }) (occurrences_of unit)

-- ---- what names are linked to (6.2.2): those with external linkage to their first declaration in the program, and to a built-in function of that name

-- a declaration of a name with external linkage: the unit in which it stands, and its number there
pub record LinkedDeclaration : Type 0 where
  pub unit : ℕ
  pub number : ℕ
  pub name : List ℕ

abbrev pub linked_by : ℕ → ℕ → Option CommonName → List LinkedDeclaration
linked_by place number (Some (external_name name)) = record { unit = place; number = number; name = name } ∷ []
linked_by place number other = []

abbrev pub linked_declaration : ℕ → UnitNames → Occurrence → List LinkedDeclaration
linked_declaration place unit o =
    if declares_itself o then linked_by place o.identifier.number (common_name unit o.identifier) else []

-- the declarations of the units from the one with this number on
abbrev pub linked_declarations : ℕ → List UnitNames → List LinkedDeclaration
linked_declarations place [] = []
linked_declarations place (unit ∷ units) =
    flat_map (linked_declaration place unit) (occurrences_of unit) ++ linked_declarations (place + 1) units

abbrev pub first_named : List ℕ → List LinkedDeclaration → Option LinkedDeclaration
first_named name [] = None
first_named name (d ∷ rest) = if bytes_eq d.name name then Some d else first_named name rest

-- a declaration, and what it is linked to: the first declaration of its name in the program, and a built-in function if one has that name
pub record Link : Type 0 where
  pub unit : ℕ
  pub number : ℕ
  pub first_unit : ℕ
  pub first_number : ℕ
  pub built_in : Option BuiltIn

abbrev pub link_to : LinkedDeclaration → LinkedDeclaration → Link
link_to d first = record {
  unit = d.unit;
  number = d.number;
  first_unit = first.unit;
  first_number = first.number;
  built_in = built_in_named d.name;
}

abbrev pub or_first : LinkedDeclaration → Option LinkedDeclaration → LinkedDeclaration
or_first d None = d
or_first d (Some first) = first

abbrev pub links_among : List LinkedDeclaration → List Link
links_among all = map (λ d. link_to d (or_first d (first_named d.name all))) all

abbrev pub links_of : List UnitNames → List Link
links_of units = links_among (linked_declarations 0 units)

-- Each identifier is bound to the same declaration as before, and linked to the same.
pub record AreBoundAlike (before after : List UnitNames) : Type 0 where
  pub bound : map bound_numbers before ≡ map bound_numbers after
  pub linked : links_of before ≡ links_of after
