use Rattle.std.proofs.Common.{◌≡◌, Bool, List, IsTrue, ◌++◌, drop}
use Rattle.cond_formula.specs.Features.{has}
use Rattle.cond_formula.specs.Conditions.{value}
use Rattle.conditional.specs.Entries.{entries_of, listed, seen}
use Rattle.conditional.proofs.lists.CondList.pruned.Given as goal

abbrev pub invariant-loop-entry : goal.invariant-loop-entry
invariant-loop-entry g l = record {
  kept : g.O.Oracle.admits l.oracle ≡ g.O.Oracle.admits l.fn.oracle;
  same : (n : List Bool) → IsTrue (value (has n) (g.O.Oracle.admits l.fn.oracle)) →
      seen (has n) (listed g.T.Plain.form l.possible) ++ seen (has n) (entries_of g.T.Plain.form (drop l.entry-index l.self.entries.items)) ≡ seen (has n) (listed g.T.Plain.form l.self);
}
