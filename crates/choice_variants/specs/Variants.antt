-- What a configuration sees of the variants of a node's parts.
use Rattle.std.specs.Prelude.{ℕ, ◌≤◌, Bool, List, [], ◌∷◌, map, Option, Some, None, ⊤}
use Rattle.cond_formula.specs.Conditions.{condition_of}
use Rattle.conditional.specs.Entries.{Entry}
use Rattle.c_tree.specs.Trees.{PlainTree, PlainTrees, none, more}
use Rattle.choice_trees.specs.ChoiceTrees.{plain_item, no_statement, item_at}
use Rattle.choice_trees.specs.Depths.{depth}
use Rattle.choice_variants.specs.declared.parts.Part.{Part}
use Rattle.choice_variants.specs.declared.parts.Part.TheVariants.{Item, NoStatement}
use Rattle.choice_variants.specs.declared.parts.Variant.{Variant}

module _ (on : ℕ → Bool) where
  abbrev pub part_at : Part → PlainTree
  part_at (Item item) = item_at on (plain_item item.now)
  part_at NoStatement = no_statement

  -- parts, and trees behind them
  abbrev pub before : List Part → PlainTrees → PlainTrees
  before [] rest = rest
  before (part ∷ parts) rest = more (part_at part) (before parts rest)

  abbrev pub perhaps_before : Option Part → PlainTrees → PlainTrees
  perhaps_before None rest = rest
  perhaps_before (Some part) rest = more (part_at part) rest

  -- a variant, and trees behind its parts
  abbrev pub variant_before : PlainTrees → Variant → Entry PlainTrees
  variant_before rest variant = record { when = condition_of variant.when; what = before variant.parts.items rest }

  abbrev pub followed : PlainTrees → List Variant → List (Entry PlainTrees)
  followed rest variants = map (variant_before rest) variants

  -- the parts of each variant, under its condition
  abbrev pub shown : List Variant → List (Entry PlainTrees)
  shown variants = followed none variants

-- ---- how deep parts are, by which readers of them are seen to end

abbrev pub part_depth : Part → ℕ
part_depth (Item item) = depth (plain_item item.now)
part_depth NoStatement = 0

abbrev pub AreLow : ℕ → List Part → Type 0
AreLow n [] = ⊤
AreLow n (part ∷ parts) = (part_depth part ≤ n) × AreLow n parts

abbrev pub IsLowIfAny : ℕ → Option Part → Type 0
IsLowIfAny n None = ⊤
IsLowIfAny n (Some part) = part_depth part ≤ n

abbrev pub AreAllLow : ℕ → List Variant → Type 0
AreAllLow n [] = ⊤
AreAllLow n (variant ∷ variants) = AreLow n variant.parts.items × AreAllLow n variants
