use Rattle.std.proofs.Common.{◌≡◌, Bool, IsTrue, List, [], ◌∷◌}
use Rattle.cond_formula.specs.Features.{has}
use Rattle.cond_formula.specs.Conditions.{value}
use Rattle.conditional.specs.Entries.{seen}
use Rattle.c_tree.specs.Trees.{PlainTree, PlainTrees}
use Rattle.choice_expansions.specs.Expansions.{expanded}
use Rattle.choice_expansions.proofs.Crossing.{SoFar}
use Rattle.choice_expansions.proofs.rows.crossed.Given as goal

abbrev pub invariant-loop-row : goal.invariant-loop-row
invariant-loop-row g l = record {
  kept : g.O.Oracle.admits l.oracle ≡ g.O.Oracle.admits l.fn.oracle;
  so_far : (n : List Bool) (tree : PlainTree) (rest : PlainTrees) → IsTrue (value (has n) (g.O.Oracle.admits l.fn.oracle))
      → seen (has n) (expanded l.expansions) ≡ tree ∷ [] → SoFar (has n) tree rest l.rows l.row-index l.all.items;
}
