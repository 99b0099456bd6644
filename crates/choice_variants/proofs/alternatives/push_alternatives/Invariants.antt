use Rattle.std.proofs.Common.{◌≡◌, ℕ, ◌≤◌, Bool, IsTrue, List, [], ◌∷◌, ◌++◌}
use Rattle.cond_formula.specs.Features.{has}
use Rattle.cond_formula.specs.Conditions.{condition_of, value}
use Rattle.conditional.specs.Entries.{seen, under}
use Rattle.c_tree.specs.Trees.{PlainTrees}
use Rattle.choice_trees.specs.ChoiceTrees.{plain_branches}
use Rattle.choice_trees.specs.Depths.{branches_depth}
use Rattle.choice_variants.specs.Variants.{followed, AreLow, AreAllLow}
use Rattle.choice_variants.proofs.Listing.{ahead, AddedSoFar}
use Rattle.choice_variants.proofs.alternatives.push_alternatives.Given as goal

abbrev pub invariant-loop-when : goal.invariant-loop-when
invariant-loop-when g l = record {
  kept : g.O.Oracle.admits l.oracle ≡ g.O.Oracle.admits l.fn.oracle;
  added : (n : List Bool) (rest : PlainTrees) → IsTrue (value (has n) (g.O.Oracle.admits l.fn.oracle))
      → AddedSoFar (has n) l.needed l.variant.parts.items rest l.when-items l.when-index (condition_of l.left) (seen (has n) (followed (has n) rest l.all.items))
      (seen (has n) (followed (has n) rest l.fn.all.items) ++ under (value (has n) (condition_of l.variant.when)) (ahead (has n) l.needed l.variant.parts.items rest (plain_branches l.when-items) ∷ []));
  low : (n : ℕ) → branches_depth (plain_branches l.when-items) ≤ n → AreLow n l.variant.parts.items → AreAllLow n l.fn.all.items → AreAllLow n l.all.items;
}
