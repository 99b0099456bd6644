use Rattle.std.proofs.Common.{◌≡◌, Bool, IsTrue, List, drop}
use Rattle.cond_formula.specs.Features.{has}
use Rattle.cond_formula.specs.Conditions.{value}
use Rattle.conditional.specs.Entries.{Carry}
use Rattle.cond_operands.specs.Operands.{Judged}
use Rattle.cond_nodes.specs.Leading.{LeadsTo, given_by}
use Rattle.cond_nodes.proofs.Led.{LedSoFar}
use Rattle.cond_nodes.proofs.leading.led.Given as goal

abbrev pub invariant-loop-x : goal.invariant-loop-x
invariant-loop-x g l = record {
  kept : g.O.Oracle.admits l.oracle ≡ g.O.Oracle.admits l.fn.oracle;
  led : (n : List Bool) (gives : g.A.Plain.Form → Judged) (v : Judged) → IsTrue (value (has n) (g.O.Oracle.admits l.fn.oracle))
      → LeadsTo g.A.Plain.form (g.L.Leading.leads l.leading n) (has n) gives → Carry (has n) v (given_by g.A.Plain.form gives l.xs)
      → LedSoFar (has n) v (given_by g.A.Plain.form gives l.xs) (given_by g.A.Plain.form gives (drop l.x-index l.xs)) l.all;
}
