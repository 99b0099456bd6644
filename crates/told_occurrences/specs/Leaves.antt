-- Leaves whose identifiers tell their numbers in the unit's stream, each another one.
use Rattle.std.specs.Prelude.{◌≡◌, ℕ, List, All, Some, slice_get, IsTrue}
use Rattle.bindings.specs.Bindings.{is_name}
use Rattle.choice_trees.specs.Leaves.{Leaf}
use Rattle.changed_forests.specs.Numbered.{number_of}

abbrev pub TellsNumber : Leaf → Type 0
TellsNumber leaf = IsTrue (is_name leaf.text) → leaf.number ≡ Some (number_of leaf.text)

pub record TellNumbers (leaves : List Leaf) : Type 0 where
  pub told : All TellsNumber leaves
  -- no two identifiers have one number
  pub apart :
      (i j : ℕ) (a b : Leaf) → slice_get leaves i ≡ Some a → slice_get leaves j ≡ Some b → IsTrue (is_name a.text) → IsTrue (is_name b.text)
      → number_of a.text ≡ number_of b.text → i ≡ j
