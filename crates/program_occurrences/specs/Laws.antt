-- What holds of the occurrences of units, and of what tokens bring along; each is the contract of a function of this crate.
use Rattle.std.specs.Prelude.{◌≡◌, ℕ, List, [], ◌∷◌, map, Option, Some, Contains, IsTrue}
use Rattle.std.specs.List.{AllZip}
use Rattle.c_tree.specs.Trees.{PlainTree, spelled}
use Rattle.c_tree.specs.Grammar.{is_unit}
use Rattle.core_meaning.specs.Checking.{Entity, local_entity, Binding as JudgedBinding, fine}
use Rattle.core_meaning.specs.Entities.{Struct}
use Rattle.core_meaning.specs.UnitNames.{UnitState}
use Rattle.core_meaning.specs.Linking.{Units, judged_program}
use Rattle.bindings.specs.Visible.{Binding, bound_to, undeclared, member_use, Occurrence as BoundIdentifier}
use Rattle.bindings.specs.Bindings.{bindings_of}
use Rattle.bindings.specs.Judged.{Identified, first_with, struct_of}
use Rattle.bindings.specs.Laws.{IsWritten}
use Rattle.program_occurrences.specs.Occurrences.{Identifier, identifiers_from, UnitNames, names_of_unit, judged_behind, Occurrence, occurrences_of}
use Rattle.program_occurrences.specs.Classes.{PlainFileToken, Brings}

-- ---- declarations

-- what declares it is an occurrence of the unit too, and declares itself
pub record IsDeclaredIn (unit : UnitNames) (o : Occurrence) : Type 0 where
  pub declaration : Occurrence
  pub among : Contains (occurrences_of unit) declaration
  pub identifier : declaration.identifier ≡ o.declared_by
  pub itself : declaration.declared_by ≡ o.declared_by

abbrev pub DeclarationsAreOccurrences : Type 0
DeclarationsAreOccurrences = (unit : UnitNames) (o : Occurrence) → Contains (occurrences_of unit) o → IsDeclaredIn unit o

-- ---- occurrences and the bindings of units

abbrev pub identifier_of : BoundIdentifier → Identifier
identifier_of b = record { number = b.number; token = b.token }

-- the bindings of a unit are those of its identifiers, each once, in the order of the text
abbrev pub IdentifiersAreBound : Type 0
IdentifiersAreBound = (tree : PlainTree) → IsTrue (is_unit tree) → map identifier_of (bindings_of tree) ≡ identifiers_from 0 (spelled tree)

-- the member of the struct whose tag declares it
pub record IsMemberOf (all : List Identified) (which : List ℕ → Option ℕ) (o : Occurrence) : Type 0 where
  pub tag : Identified
  pub declares_struct : first_with (struct_of o.identifier.entity) all ≡ Some tag
  pub bound : which tag.token.text ≡ Some o.declared_by.number

abbrev pub IsBoundTo : List Identified → Binding → Occurrence → Type 0
IsBoundTo all (bound_to by) o = by ≡ o.declared_by.number
IsBoundTo all undeclared o = ⊥
IsBoundTo all (member_use which) o = IsMemberOf all which o

-- A slot that is no function's is that of a parameter of a declaration, which a judgement tells apart no further.
abbrev pub IsBoundBy : List Identified → Binding → Occurrence → Entity → Type 0
IsBoundBy all binding o (local_entity slot) = Unit {0}
IsBoundBy all binding o entity = IsBoundTo all binding o

-- the occurrence of an identifier, with its binding
pub record IsOccurrenceOf (all : List Identified) (b : BoundIdentifier) (o : Occurrence) : Type 0 where
  pub number : o.identifier.number ≡ b.number
  pub token : o.identifier.token ≡ b.token
  pub bound : IsBoundBy all b.binding o o.identifier.entity

-- Where a unit is judged well, its occurrences are its identifiers, each declared by the one to which the bindings of the unit bind it.
abbrev pub OccurrencesAreBound : Type 0
OccurrencesAreBound =
    (tree : PlainTree) → IsWritten tree → (structs : List Struct) (state : UnitState) (js : List JudgedBinding) → judged_behind structs tree ≡ fine state js
    → AllZip (IsOccurrenceOf (names_of_unit tree (judged_behind structs tree)).identified) (bindings_of tree) (occurrences_of (names_of_unit tree (judged_behind structs tree)))

-- each unit is judged well behind the structs of those before it
pub data AreJudged : List Struct → List PlainTree → Type 0 where
  no_more : {structs : List Struct} → AreJudged structs []
  one_more :
      {structs : List Struct} {tree : PlainTree} {rest : List PlainTree} (state : UnitState) (js : List JudgedBinding)
      → judged_behind structs tree ≡ fine state js → AreJudged state.scope.structs rest → AreJudged structs (tree ∷ rest)

-- So are the units of a program, of which therefore no identifier is left out.
abbrev pub UnitsOfProgramsAreJudged : Type 0
UnitsOfProgramsAreJudged =
    (trees : List PlainTree) (linked : Units) (js : List JudgedBinding) → judged_program trees ≡ fine linked js → AreJudged [] trees

-- ---- what tokens bring along

-- a token that another brings along brings that one along too
abbrev pub TokensBringBack : Type 0
TokensBringBack = (units : List UnitNames) (a b : PlainFileToken) → Brings units a b → Brings units b a
