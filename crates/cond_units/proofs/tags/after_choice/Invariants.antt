use Rattle.std.proofs.Common.{ℕ, Bool}
use Rattle.cond_formula.specs.Conditions.{condition_of}
use Rattle.c_tree.specs.Trees.{PlainTrees}
use Rattle.choice_trees.specs.ChoiceTrees.{plain_branches, with_part, branch_at}
use Rattle.cond_units.specs.Tags.{has_tag, ends}
use Rattle.cond_units.proofs.Searching.{SearchedSoFar}
use Rattle.cond_units.proofs.tags.after_choice.Given as goal

abbrev pub invariant-loop-when : goal.invariant-loop-when
invariant-loop-when l = record {
  so_far : (on : ℕ → Bool) (rest : PlainTrees)
      → SearchedSoFar on l.tag l.needed rest l.when-items l.when-index (condition_of l.untaken) (ends on l.searched (has_tag l.tag rest))
      (ends on l.fn.search (has_tag l.tag (with_part l.needed (branch_at on (plain_branches l.when-items)) rest)));
}
