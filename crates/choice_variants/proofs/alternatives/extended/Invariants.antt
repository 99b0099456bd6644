use Rattle.std.proofs.Common.{◌≡◌, ℕ, ◌≤◌, Bool, IsTrue, List}
use Rattle.cond_formula.specs.Features.{has}
use Rattle.cond_formula.specs.Conditions.{value}
use Rattle.c_tree.specs.Trees.{PlainTrees}
use Rattle.choice_trees.specs.ChoiceTrees.{plain_branches, with_part, branch_at}
use Rattle.choice_trees.specs.Depths.{branches_depth}
use Rattle.choice_variants.specs.Variants.{AreAllLow}
use Rattle.choice_variants.proofs.Listing.{SoFar}
use Rattle.choice_variants.proofs.alternatives.extended.Given as goal

abbrev pub invariant-loop-variant : goal.invariant-loop-variant
invariant-loop-variant g l = record {
  kept : g.O.Oracle.admits l.oracle ≡ g.O.Oracle.admits l.fn.oracle;
  so_far : (n : List Bool) (rest : PlainTrees) → IsTrue (value (has n) (g.O.Oracle.admits l.fn.oracle))
      → SoFar (has n) (with_part l.needed (branch_at (has n) (plain_branches l.choice.branches.items)) rest) rest l.variants l.variant-index l.all.items;
  low : (n : ℕ) → branches_depth (plain_branches l.choice.branches.items) ≤ n → AreAllLow n l.variants → AreAllLow n l.all.items;
}
