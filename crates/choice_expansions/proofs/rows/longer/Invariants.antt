use Rattle.std.proofs.Common.{◌≡◌, drop}
use Rattle.c_tree.specs.Trees.{PlainTrees}
use Rattle.choice_expansions.specs.Expansions.{trees_before}
use Rattle.choice_expansions.proofs.rows.longer.Given as goal

abbrev pub invariant-loop-part : goal.invariant-loop-part
invariant-loop-part l = (rest : PlainTrees) → trees_before l.all.items (trees_before (drop l.part-index l.trees) rest) ≡ trees_before l.trees rest
