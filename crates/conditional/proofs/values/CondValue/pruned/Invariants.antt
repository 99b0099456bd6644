use Rattle.std.proofs.Common.{◌≡◌, Bool, true, List, IsTrue, drop}
use Rattle.cond_formula.specs.Features.{has}
use Rattle.cond_formula.specs.Conditions.{value}
use Rattle.conditional.specs.Entries.{entries_of, alternatives}
use Rattle.conditional.proofs.ValueLaws.{PlacedSoFar}
use Rattle.conditional.proofs.values.CondValue.pruned.Given as goal

abbrev pub invariant-loop-alternative : goal.invariant-loop-alternative
invariant-loop-alternative g l = record {
  kept : g.O.Oracle.admits l.oracle ≡ g.O.Oracle.admits l.fn.oracle;
  placed : (n : List Bool) → IsTrue (value (has n) (g.O.Oracle.admits l.fn.oracle)) →
      PlacedSoFar (has n) true (alternatives g.T.Plain.form l.self) (entries_of g.T.Plain.form (drop l.alternative-index l.self.alternatives.items)) (alternatives g.T.Plain.form l.initial.possible) (alternatives g.T.Plain.form l.possible);
}
