-- What holds of the name spaces of a unit's identifiers; each is the contract of a function of this crate.
use Rattle.std.specs.Prelude.{◌≡◌, ℕ, ◌==◌, Bool, false, List, [], ◌∷◌, map, Option, Some, None, if◌then◌else◌, IsTrue}
use Rattle.std.specs.List.{AllZip}
use Rattle.c_tree.specs.Trees.{PlainTree}
use Rattle.core_meaning.specs.Checking.{Binding as JudgedBinding, fine}
use Rattle.core_meaning.specs.Entities.{Struct}
use Rattle.core_meaning.specs.UnitNames.{UnitState}
use Rattle.bindings.specs.Visible.{NameSpace, ordinary, tags, members_of, bound_to, Occurrence as BoundIdentifier}
use Rattle.bindings.specs.Bindings.{bindings_of}
use Rattle.bindings.specs.Laws.{IsWritten}
use Rattle.program_occurrences.specs.Occurrences.{UnitNames, names_of_unit, judged_behind, Occurrence, occurrences_of, declares_itself, CommonName, external_name, tag, member_of, common_name}
use Rattle.name_spaces.specs.Spaces.{spaces_of}

-- the name that units have in common by which a name of this space is known, if it is by one
abbrev pub common_by : UnitNames → Option NameSpace → List ℕ → Option CommonName
common_by unit (Some ordinary) text = if unit.is_external text then Some (external_name text) else None
common_by unit (Some tags) text = Some (tag text)
common_by unit (Some (members_of struct)) text = Some (member_of struct text)
common_by unit None text = None

-- the name in common of an identifier that declares itself is told by its name space
abbrev pub IsTold : UnitNames → Occurrence → Option NameSpace → Type 0
IsTold unit o space = IsTrue (declares_itself o) → common_name unit o.identifier ≡ common_by unit space o.identifier.token.text

-- In a unit that is judged well, name spaces tell the names that units have in common.
abbrev pub SpacesTellNames : Type 0
SpacesTellNames =
    (tree : PlainTree) → IsWritten tree → (structs : List Struct) (state : UnitState) (js : List JudgedBinding) → judged_behind structs tree ≡ fine state js
    → AllZip (IsTold (names_of_unit tree (judged_behind structs tree))) (occurrences_of (names_of_unit tree (judged_behind structs tree))) (spaces_of tree)

-- an identifier is bound to itself
abbrev pub binds_itself : BoundIdentifier → Bool
binds_itself b = elim b.binding as (λ x. Bool) [ bound_to by ↦ b.number == by | other ↦ false ]

-- In a unit that is judged well, an identifier declares itself exactly where the bindings of the unit bind it to itself.
abbrev pub BindingsTellDeclarations : Type 0
BindingsTellDeclarations =
    (tree : PlainTree) → IsWritten tree → (structs : List Struct) (state : UnitState) (js : List JudgedBinding) → judged_behind structs tree ≡ fine state js
    → AllZip (λ b o. binds_itself b ≡ declares_itself o) (bindings_of tree) (occurrences_of (names_of_unit tree (judged_behind structs tree)))

-- the name in common that an identifier declares, if it declares itself
abbrev pub declared_name : UnitNames → Occurrence → Option CommonName
declared_name unit o = if declares_itself o then common_name unit o.identifier else None

-- the same by its binding and its name space
abbrev pub told_name : UnitNames → BoundIdentifier → Option NameSpace → Option CommonName
told_name unit b space = if binds_itself b then common_by unit space b.token.text else None

abbrev pub told_names : UnitNames → List BoundIdentifier → List (Option NameSpace) → List (Option CommonName)
told_names unit [] spaces = []
told_names unit (b ∷ bindings) [] = []
told_names unit (b ∷ bindings) (space ∷ spaces) = told_name unit b space ∷ told_names unit bindings spaces

-- So the bindings of such a unit and its name spaces tell the names that it declares, identifier by identifier.
abbrev pub DeclaredNamesAreTold : Type 0
DeclaredNamesAreTold =
    (tree : PlainTree) → IsWritten tree → (structs : List Struct) (state : UnitState) (js : List JudgedBinding) → judged_behind structs tree ≡ fine state js
    → map (declared_name (names_of_unit tree (judged_behind structs tree))) (occurrences_of (names_of_unit tree (judged_behind structs tree)))
    ≡ told_names (names_of_unit tree (judged_behind structs tree)) (bindings_of tree) (spaces_of tree)
