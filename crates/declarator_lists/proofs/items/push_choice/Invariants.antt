use Rattle.std.proofs.Common.{◌≡◌, Bool, IsTrue, List, ◌++◌}
use Rattle.cond_formula.specs.Features.{has}
use Rattle.cond_formula.specs.Conditions.{condition_of, value}
use Rattle.conditional.specs.Entries.{seen}
use Rattle.choice_trees.specs.ChoiceTrees.{plain_branches}
use Rattle.declarator_lists.specs.Entries.{entries_at}
use Rattle.declarator_lists.proofs.Parts.{of_branches, ChosenSoFar}
use Rattle.declarator_lists.proofs.items.push_choice.Given as goal

abbrev pub invariant-loop-when : goal.invariant-loop-when
invariant-loop-when g l = record {
  kept : g.O.Oracle.admits l.oracle ≡ g.O.Oracle.admits l.fn.oracle;
  chosen : (n : List Bool) → IsTrue (value (has n) (g.O.Oracle.admits l.fn.oracle))
      → ChosenSoFar (has n) l.when-items l.when-index (condition_of l.left) (seen (has n) (entries_at (has n) l.all.items))
      (seen (has n) (entries_at (has n) l.fn.all.items) ++ of_branches (has n) (plain_branches l.when-items));
}
