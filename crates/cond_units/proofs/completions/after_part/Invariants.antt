use Rattle.std.proofs.Common.{ℕ, Bool}
use Rattle.c_tree.specs.Trees.{PlainTrees}
use Rattle.choice_trees.specs.ChoiceTrees.{plain_branches}
use Rattle.cond_units.specs.Tags.{ends}
use Rattle.cond_units.proofs.Searching.{begins, BegunSoFar}
use Rattle.cond_units.proofs.completions.after_part.Given as goal

abbrev pub invariant-loop-when : goal.invariant-loop-when
invariant-loop-when l = record {
  so_far : (on : ℕ → Bool) (rest : PlainTrees)
      → BegunSoFar on l.tag rest l.when-items l.when-index l.searched (ends on l.fn.search (begins on l.tag rest (plain_branches l.when-items)));
}
