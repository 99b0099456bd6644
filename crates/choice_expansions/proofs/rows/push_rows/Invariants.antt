use Rattle.std.proofs.Common.{◌≡◌, Bool, IsTrue, List, ◌++◌, map}
use Rattle.cond_formula.specs.Features.{has}
use Rattle.cond_formula.specs.Conditions.{condition_of, value}
use Rattle.conditional.specs.Entries.{seen, under}
use Rattle.c_tree.specs.Trees.{PlainTrees}
use Rattle.choice_expansions.specs.Expansions.{expanded, rows_before}
use Rattle.choice_expansions.proofs.Crossing.{with_tree, AddedSoFar}
use Rattle.choice_expansions.proofs.rows.push_rows.Given as goal

abbrev pub invariant-loop-expansion : goal.invariant-loop-expansion
invariant-loop-expansion g l = record {
  kept : g.O.Oracle.admits l.oracle ≡ g.O.Oracle.admits l.fn.oracle;
  added : (n : List Bool) (rest : PlainTrees) → IsTrue (value (has n) (g.O.Oracle.admits l.fn.oracle))
      → AddedSoFar (has n) l.row rest l.expansions l.expansion-index (seen (has n) (rows_before rest l.rows.items))
      (seen (has n) (rows_before rest l.fn.rows.items) ++ under (value (has n) (condition_of l.row.when)) (map (with_tree (has n) l.row rest l.expansions) (seen (has n) (expanded l.expansions))));
}
