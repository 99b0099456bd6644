-- The identifiers of a program's units, each with the one that first declares what it stands for (ISO/IEC 9899:2011, 6.2.1 to 6.2.3).
use Rattle.std.specs.Prelude.{◌≡◌, ℕ, ◌+◌, ◌==◌, Bool, false, not, List, [], ◌∷◌, map, Option, Some, None, slice_get, Contains, if◌then◌else◌}
use Rattle.c_text.specs.Token.{PlainToken}
use Rattle.c_tree.specs.Trees.{PlainTree, spelled}
use Rattle.core_meaning.specs.Checking.{Entity, file_entity, struct_entity, member_entity, Binding, Checked, fine}
use Rattle.core_meaning.specs.Entities.{Struct, FileName}
use Rattle.core_meaning.specs.UnitNames.{UnitState, judged_unit}
use Rattle.core_meaning.specs.Linking.{no_numbers}
use Rattle.bindings.specs.Bindings.{is_name}
use Rattle.bindings.specs.Judged.{Identified, first_with}

-- ---- the identifiers of a unit

-- an identifier, by the number of its token in the unit
pub record Identifier : Type 0 where
  pub number : ℕ
  pub token : PlainToken

-- the identifiers among tokens, in their order; this is the number of the first token
abbrev pub identifiers_from : ℕ → List PlainToken → List Identifier
identifiers_from number [] = []
identifiers_from number (token ∷ rest) =
    if is_name token then record { number = number; token = token } ∷ identifiers_from (number + 1) rest
    else identifiers_from (number + 1) rest

-- A judgement binds each identifier once, in the order of the text.
abbrev pub with_entities : List Identifier → List Binding → List Identified
with_entities [] bindings = []
with_entities (i ∷ identifiers) [] = []
with_entities (i ∷ identifiers) (b ∷ bindings) =
    record { number = i.number; token = i.token; entity = b.entity } ∷ with_entities identifiers bindings

-- ---- the units of a program

-- what is known of the names of a unit: its identifiers with what they stand for, and which names of file scope have external linkage (6.2.2)
pub record UnitNames : Type 0 where
  pub identified : List Identified
  pub is_external : List ℕ → Bool

abbrev pub judged_bindings : Checked UnitState → List Binding
judged_bindings (fine state bindings) = bindings
judged_bindings other = []

abbrev pub is_external_name : Option FileName → Bool
is_external_name None = false
is_external_name (Some name) = not name.internal

abbrev pub has_external : Checked UnitState → List ℕ → Bool
has_external (fine state bindings) name = is_external_name (state.scope.file_names name)
has_external other name = false

abbrev pub names_of_unit : PlainTree → Checked UnitState → UnitNames
names_of_unit tree judged = record {
  identified = with_entities (identifiers_from 0 (spelled tree)) (judged_bindings judged);
  is_external = has_external judged;
}

abbrev pub structs_behind : List Struct → Checked UnitState → List Struct
structs_behind before (fine state bindings) = state.scope.structs
structs_behind before other = before

-- a unit behind the structs of the units before it; what identifiers stand for doesn't depend on the numbers of a core program
abbrev pub judged_behind : List Struct → PlainTree → Checked UnitState
judged_behind structs tree = judged_unit 0 structs (no_numbers 0) tree

abbrev pub names_behind : List Struct → List PlainTree → List UnitNames
names_behind structs [] = []
names_behind structs (tree ∷ rest) =
    names_of_unit tree (judged_behind structs tree) ∷ names_behind (structs_behind structs (judged_behind structs tree)) rest

-- the names of units that are judged well, one unit after the other
abbrev pub names_of_units : List PlainTree → List UnitNames
names_of_units trees = names_behind [] trees

-- ---- occurrences

-- An identifier of a unit with the one that first declares what it stands for. A redeclaration is an occurrence too.
pub record Occurrence : Type 0 where
  pub identifier : Identified
  pub declared_by : Identified

abbrev pub or_itself : Identified → Option Identified → Identified
or_itself i None = i
or_itself i (Some first) = first

-- The first that stands for the same declares it. A parameter of a declaration that defines no function stands for itself alone.
abbrev pub occurrence_among : List Identified → Identified → Occurrence
occurrence_among all i = record { identifier = i; declared_by = or_itself i (first_with i.entity all) }

abbrev pub occurrences_of : UnitNames → List Occurrence
occurrences_of unit = map (occurrence_among unit.identified) unit.identified

-- Two declarations of a unit are the same where they have the same number: a header that is read twice declares twice with one token.
abbrev pub declares_itself : Occurrence → Bool
declares_itself o = o.identifier.number == o.declared_by.number

-- an occurrence in the unit with this number among these
pub record OccursIn (units : List UnitNames) : Type 0 where
  pub place : ℕ
  pub unit : UnitNames
  pub is_unit : slice_get units place ≡ Some unit
  pub occurrence : Occurrence
  pub among : Contains (occurrences_of unit) occurrence

-- ---- names that units have in common

-- What all units mean alike by a name: an object or a function with external linkage (6.2.2), a struct by its tag, a member by the tag of its
-- struct and its own name (6.2.7).
pub data CommonName : Type 0 where
  external_name : List ℕ → CommonName
  tag : List ℕ → CommonName
  member_of : List ℕ → List ℕ → CommonName

abbrev pub member_by : Option Identified → List ℕ → Option CommonName
member_by None name = None
member_by (Some declares_tag) name = Some (member_of declares_tag.token.text name)

abbrev pub common_name_by : UnitNames → List ℕ → Entity → Option CommonName
common_name_by unit text (file_entity name) = if unit.is_external name then Some (external_name name) else None
common_name_by unit text (struct_entity number) = Some (tag text)
common_name_by unit text (member_entity struct number) = member_by (first_with (struct_entity struct) unit.identified) text
common_name_by unit text other = None

-- the name in common by which an identifier of the unit is known, if it is by one
abbrev pub common_name : UnitNames → Identified → Option CommonName
common_name unit i = common_name_by unit i.token.text i.entity
