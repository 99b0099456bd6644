-- What a configuration sees of the trees that an item stands for.
use Rattle.std.specs.Prelude.{List, [], ◌∷◌, map, Option, option_map}
use Rattle.cond_formula.specs.Conditions.{condition_of}
use Rattle.conditional.specs.Entries.{Entry}
use Rattle.c_tree.specs.declared.trees.Tree.{Tree}
use Rattle.c_tree.specs.Trees.{PlainTree, PlainTrees, more, plain_tree}
use Rattle.choice_expansions.specs.declared.alternatives.PartExpansion.{PartExpansion}
use Rattle.choice_expansions.specs.declared.rows.Expansion.{Expansion}
use Rattle.choice_expansions.specs.declared.rows.Row.{Row}

abbrev pub plain_expansion : Expansion → Entry PlainTree
plain_expansion expansion = record { when = condition_of expansion.when; what = plain_tree expansion.tree }

-- each tree, under its condition
abbrev pub expanded : List Expansion → List (Entry PlainTree)
expanded expansions = map plain_expansion expansions

abbrev pub plain_part : PartExpansion → Entry (Option PlainTree)
plain_part part = record { when = condition_of part.when; what = option_map plain_tree part.tree }

-- what stands for a part, under its condition
abbrev pub parts_expanded : List PartExpansion → List (Entry (Option PlainTree))
parts_expanded parts = map plain_part parts

-- ---- rows, by which the code makes them

-- trees, and others behind them
abbrev pub trees_before : List Tree → PlainTrees → PlainTrees
trees_before [] rest = rest
trees_before (first ∷ others) rest = more (plain_tree first) (trees_before others rest)

abbrev pub row_before : PlainTrees → Row → Entry PlainTrees
row_before rest row = record { when = condition_of row.when; what = trees_before row.trees.items rest }

-- the trees of each row and others behind them, under the row's condition
abbrev pub rows_before : PlainTrees → List Row → List (Entry PlainTrees)
rows_before rest rows = map (row_before rest) rows
