use Rattle.std.proofs.Common.{◌≡◌, Bool, IsTrue, List, ◌++◌}
use Rattle.cond_formula.specs.Features.{has}
use Rattle.cond_formula.specs.Conditions.{condition_of, value}
use Rattle.conditional.specs.Entries.{seen, under}
use Rattle.choice_expansions.specs.Expansions.{expanded}
use Rattle.cond_parameters.proofs.Pushed.{TreesSoFar}
use Rattle.cond_parameters.proofs.trees.push_trees.Given as goal

abbrev pub invariant-loop-expansion : goal.invariant-loop-expansion
invariant-loop-expansion g l = record {
  kept : g.O.Oracle.admits l.oracle ≡ g.O.Oracle.admits l.fn.oracle;
  added : (n : List Bool) → IsTrue (value (has n) (g.O.Oracle.admits l.fn.oracle))
      → TreesSoFar (has n) (value (has n) (condition_of l.here)) l.expansions l.expansion-index (seen (has n) (expanded l.all.items))
      (seen (has n) (expanded l.fn.all.items) ++ under (value (has n) (condition_of l.here)) (seen (has n) (expanded l.expansions)));
}
