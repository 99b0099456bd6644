use Rattle.std.proofs.Common.{◌≡◌, Bool, List, IsTrue, drop}
use Rattle.cond_formula.specs.Features.{has}
use Rattle.cond_formula.specs.Conditions.{value}
use Rattle.conditional.specs.Entries.{alternatives}
use Rattle.cond_expressions.specs.Places.{place_view}
use Rattle.cond_expressions.proofs.Readings.{Stand}
use Rattle.cond_expressions.proofs.evaluation.evaluate_all.Given as goal

abbrev pub invariant-loop-token : goal.invariant-loop-token
invariant-loop-token g l = record {
  kept : g.O.Oracle.admits l.oracle ≡ g.O.Oracle.admits l.fn.oracle;
  stand : (c : List Bool) → IsTrue (value (has c) (g.O.Oracle.admits l.fn.oracle)) → Stand (has c) l.tokens (drop l.token-index l.tokens) (alternatives place_view l.places);
}
