use Rattle.std.proofs.Common.{◌≡◌, Bool, ◌||◌, List, drop, IsTrue}
use Rattle.std.specs.List.{list_any}
use Rattle.cond_formula.specs.Features.{has}
use Rattle.cond_formula.specs.Conditions.{condition_of, value}
use Rattle.conditional.specs.Entries.{seen}
use Rattle.declarator_lists.specs.Entries.{entries_at}
use Rattle.cond_types.proofs.questions.where_some_entry.Given as goal

abbrev pub invariant-loop-entry : goal.invariant-loop-entry
invariant-loop-entry g l = record {
  kept : g.O.Oracle.admits l.oracle ≡ g.O.Oracle.admits l.fn.oracle;
  so_far : (n : List Bool) → IsTrue (value (has n) (g.O.Oracle.admits l.fn.oracle))
      → (value (has n) (condition_of l.so_far) || list_any (g.Q.Question.asks l.question (has n)) (seen (has n) (entries_at (has n) (drop l.entry-index l.all))))
      ≡ list_any (g.Q.Question.asks l.question (has n)) (seen (has n) (entries_at (has n) l.all));
}
