-- What tells in a configuration whether the renaming of a class binds or links an identifier otherwise.
use Rattle.std.specs.Prelude.{◌≡◌, List, [], ◌∷◌}
use Rattle.c_tree.specs.Trees.{PlainTree, spelled}
use Rattle.choice_trees.specs.Leaves.{Leaf, texts}
use Rattle.cond_scopes.specs.Progress.{numbers}
use Rattle.program_occurrences.specs.Occurrences.{UnitNames}
use Rattle.told_occurrences.specs.Leaves.{TellNumbers}
use Rattle.told_occurrences.specs.Told.{pairs_of, HaveSame}

-- the leaves of a tree, which tell their numbers in the unit's stream
pub record AreLeavesOf (leaves : List Leaf) (tree : PlainTree) : Type 0 where
  pub are_spelled : texts leaves ≡ spelled tree
  pub tell_numbers : TellNumbers leaves

-- unit by unit the same pairs are told
abbrev pub HaveSamePairs : List (List Leaf) → List UnitNames → List UnitNames → Type 0
HaveSamePairs [] [] [] = Unit {0}
HaveSamePairs (leaves ∷ rest) (unit ∷ units) (other ∷ others) =
    HaveSame (pairs_of (numbers leaves) unit) (pairs_of (numbers leaves) other) × HaveSamePairs rest units others
HaveSamePairs _ _ _ = ⊥
