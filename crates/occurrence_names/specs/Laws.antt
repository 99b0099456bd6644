-- LAWS, each the contract of a function of this crate.
use Rattle.std.specs.Prelude.{◌≡◌, ℕ, List, All}
use Rattle.c_tree.specs.Trees.{PlainTree}
use Rattle.core_meaning.specs.Checking.{Entity, file_entity, Binding, fine}
use Rattle.core_meaning.specs.Entities.{Struct}
use Rattle.core_meaning.specs.UnitNames.{UnitState}
use Rattle.bindings.specs.Laws.{IsWritten}
use Rattle.program_occurrences.specs.Occurrences.{names_of_unit, judged_behind, Occurrence, occurrences_of}

-- the identifier has the name of the one that declares it
abbrev pub KeepsName : Occurrence → Type 0
KeepsName o = o.identifier.token.text ≡ o.declared_by.token.text

-- In a unit that is judged well, each occurrence has the name of what declares it.
abbrev pub OccurrencesKeepNames : Type 0
OccurrencesKeepNames =
    (tree : PlainTree) → IsWritten tree → (structs : List Struct) (state : UnitState) (js : List Binding) → judged_behind structs tree ≡ fine state js
    → All KeepsName (occurrences_of (names_of_unit tree (judged_behind structs tree)))

-- what stands for a name of file scope has this text
abbrev pub IsTextOf : Entity → List ℕ → Type 0
IsTextOf (file_entity name) text = text ≡ name
IsTextOf other text = Unit {0}

-- In a unit that is judged well, each identifier that stands for a name of file scope is written as this name.
abbrev pub FileNamesAreWritten : Type 0
FileNamesAreWritten =
    (tree : PlainTree) → IsWritten tree → (structs : List Struct) (state : UnitState) (js : List Binding) → judged_behind structs tree ≡ fine state js
    → All (λ o. IsTextOf o.identifier.entity o.identifier.token.text) (occurrences_of (names_of_unit tree (judged_behind structs tree)))
