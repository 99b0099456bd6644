-- That what readers note of a unit is what there is in it; each law is the contract of a function of this crate.
use Rattle.std.specs.Prelude.{◌≡◌, ℕ, List, Some, slice_get}
use Rattle.c_tree.specs.Trees.{PlainTree, spelled}
use Rattle.core_meaning.specs.Checking.{Binding, fine}
use Rattle.core_meaning.specs.Entities.{Struct}
use Rattle.core_meaning.specs.UnitNames.{UnitState}
use Rattle.bindings.specs.Laws.{IsWritten}
use Rattle.choice_trees.specs.Leaves.{Leaf, texts}
use Rattle.cond_scopes.specs.Progress.{numbers}
use Rattle.cond_pairings.specs.Pairs.{Pair}
use Rattle.member_uses.specs.Uses.{uses_in}
use Rattle.program_occurrences.specs.Occurrences.{names_of_unit, judged_behind}
use Rattle.name_spaces.specs.Spaces.{spaces_of}
use Rattle.cond_name_spaces.specs.Spaced.{InSpace, names_among, spaced}
use Rattle.told_occurrences.specs.Told.{HaveSame, pairs_of, names_of, IsTold}
use Rattle.told_occurrences.specs.Leaves.{TellNumbers}
use Rattle.read_occurrences.specs.Read.{pairs_read, names_read}

-- a written unit that is judged well behind these structs, with the leaves that it is read from
pub record IsUnit (leaves : List Leaf) (structs : List Struct) (tree : PlainTree) (state : UnitState) (js : List Binding) : Type 0 where
  pub written : IsWritten tree
  pub spells : texts leaves ≡ spelled tree
  pub numbered : TellNumbers leaves
  pub judged : judged_behind structs tree ≡ fine state js

-- The struct with a number has this tag, where structs have other numbers to the reader.
abbrev pub AreTags : (ℕ → ℕ) → (ℕ → List ℕ) → List Struct → Type 0
AreTags by tag structs = (n : ℕ) (s : Struct) → slice_get structs n ≡ Some s → tag (by n) ≡ s.name

-- the identifiers of the unit that stand in name spaces
abbrev pub names_in_spaces : List Leaf → PlainTree → List InSpace
names_in_spaces leaves tree = spaced (names_among leaves) (spaces_of tree)

-- the pairs that are read of it, where structs have these numbers and tags
abbrev pub unit_pairs : List Leaf → List Struct → PlainTree → (ℕ → ℕ) → (ℕ → List ℕ) → List Pair
unit_pairs leaves structs tree by tag =
    pairs_read (numbers leaves) tree tag (names_in_spaces leaves tree) (uses_in by tree (judged_behind structs tree))

-- The pairs that are read are the occurrences of the unit.
abbrev pub PairsAreRead : Type 0
PairsAreRead =
    (leaves : List Leaf) (structs : List Struct) (tree : PlainTree) (state : UnitState) (js : List Binding) → IsUnit leaves structs tree state js
    → (by : ℕ → ℕ) (tag : ℕ → List ℕ) → AreTags by tag state.scope.structs
    → HaveSame (unit_pairs leaves structs tree by tag) (pairs_of (numbers leaves) (names_of_unit tree (judged_behind structs tree)))

-- Where these pairs are the unit's, whatever their order is, the names that are read are those that it declares.
abbrev pub NamesAreRead : Type 0
NamesAreRead =
    (leaves : List Leaf) (structs : List Struct) (tree : PlainTree) (state : UnitState) (js : List Binding) → IsUnit leaves structs tree state js
    → (pairs : List Pair) → HaveSame pairs (pairs_of (numbers leaves) (names_of_unit tree (judged_behind structs tree)))
    → HaveSame (names_read (names_of_unit tree (judged_behind structs tree)) pairs (names_in_spaces leaves tree))
    (names_of (numbers leaves) (names_of_unit tree (judged_behind structs tree)))

-- So all that there is in a unit is read, and nothing else.
abbrev pub OccurrencesAreRead : Type 0
OccurrencesAreRead =
    (leaves : List Leaf) (structs : List Struct) (tree : PlainTree) (state : UnitState) (js : List Binding) → IsUnit leaves structs tree state js
    → (by : ℕ → ℕ) (tag : ℕ → List ℕ) → AreTags by tag state.scope.structs
    → IsTold (numbers leaves) (names_of_unit tree (judged_behind structs tree)) (unit_pairs leaves structs tree by tag)
    (names_read (names_of_unit tree (judged_behind structs tree)) (unit_pairs leaves structs tree by tag) (names_in_spaces leaves tree))
