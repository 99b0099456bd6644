-- What holds of the renaming of a class in a configuration; each is the contract of a function of this crate.
use Rattle.std.specs.Prelude.{◌≡◌, ◌↔◌, ℕ, List, map}
use Rattle.std.specs.List.{AllZip}
use Rattle.c_text.specs.declared.origin.FileToken.{FileToken}
use Rattle.c_tree.specs.Trees.{PlainTree}
use Rattle.choice_trees.specs.Leaves.{Leaf}
use Rattle.core_meaning.specs.Checking.{Binding, fine}
use Rattle.core_meaning.specs.Entities.{Struct}
use Rattle.core_meaning.specs.Linking.{Units, judged_program}
use Rattle.core_meaning.specs.UnitNames.{UnitState}
use Rattle.bindings.specs.Laws.{IsWritten, AreWritten}
use Rattle.cond_scopes.specs.Progress.{numbers}
use Rattle.program_occurrences.specs.Occurrences.{names_of_unit, judged_behind, names_of_units}
use Rattle.program_occurrences.specs.Links.{bound_numbers, AreBoundAlike}
use Rattle.changed_forests.specs.Renamed.{is_of_class, renamed_tree}
use Rattle.told_occurrences.specs.Told.{pairs_of, HaveSame}
use Rattle.linked_otherwise.specs.Otherwise.{AreWrittenSo, AreRenamedTogether, IsLinkedOtherwise}
use Rattle.told_captures.specs.Captures.{AreLeavesOf, HaveSamePairs}

-- Where a unit and the one with the new name are judged well, the same pairs are told of both exactly where each identifier is declared by the
-- one that declared it.
abbrev pub PairsOfRenamedTellBindings : Type 0
PairsOfRenamedTellBindings =
    (class : List FileToken) (new : List ℕ) (leaves : List Leaf) (tree : PlainTree) → AreLeavesOf leaves tree → IsWritten tree → IsWritten (renamed_tree class new tree)
    → (structs others : List Struct) (state after : UnitState) (js ks : List Binding) → judged_behind structs tree ≡ fine state js
    → judged_behind others (renamed_tree class new tree) ≡ fine after ks
    → HaveSame (pairs_of (numbers leaves) (names_of_unit tree (judged_behind structs tree)))
    (pairs_of (numbers leaves) (names_of_unit (renamed_tree class new tree) (judged_behind others (renamed_tree class new tree))))
    ↔ (bound_numbers (names_of_unit tree (judged_behind structs tree)) ≡ bound_numbers (names_of_unit (renamed_tree class new tree) (judged_behind others (renamed_tree class new tree))))

-- So in two programs that are judged well each identifier is bound and linked as it was exactly where unit by unit the same pairs are told, and
-- no declaration is linked otherwise.
abbrev pub CapturesAreTold : Type 0
CapturesAreTold =
    (class : List FileToken) (old new : List ℕ) (all : List (List Leaf)) (trees : List PlainTree) → AllZip AreLeavesOf all trees → AreWritten trees
    → AreWritten (map (renamed_tree class new) trees) → (linked after : Units) (bindings behind : List Binding) → judged_program trees ≡ fine linked bindings
    → judged_program (map (renamed_tree class new) trees) ≡ fine after behind → AreWrittenSo (is_of_class class new) old (names_of_units trees)
    → AreRenamedTogether (is_of_class class new) (names_of_units trees)
    → AreBoundAlike (names_of_units trees) (names_of_units (map (renamed_tree class new) trees))
    ↔ (HaveSamePairs all (names_of_units trees) (names_of_units (map (renamed_tree class new) trees)) × (IsLinkedOtherwise (is_of_class class new) old new (names_of_units trees) → ⊥))
