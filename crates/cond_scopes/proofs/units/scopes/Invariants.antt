use Rattle.std.proofs.Common.{◌≡◌, Bool, List, length, IsTrue}
use Rattle.cond_formula.specs.Features.{has}
use Rattle.cond_formula.specs.Conditions.{condition_of, value}
use Rattle.cond_scopes.proofs.UnitLemmas.{UnitsSoFar}
use Rattle.cond_scopes.proofs.units.scopes.Given as goal

-- those that are left complete the units so far, and are as many as their trees
abbrev pub invariant-loop-unit : goal.invariant-loop-unit
invariant-loop-unit g l = record {
  alike : length l.unit-iterator.b.rest.now ≡ length l.unit-iterator.a.rest.now;
  kept : g.O.Oracle.admits l.oracle ≡ g.O.Oracle.admits l.fn.oracle;
  so_far : (c : List Bool) → IsTrue (value (has c) (g.O.Oracle.admits l.fn.oracle))
      → UnitsSoFar (has c) l.units l.forests l.all.units.items (value (has c) (condition_of l.all.refused)) l.unit-iterator.a.rest.now l.unit-iterator.b.rest.now;
}
