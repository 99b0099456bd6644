use Rattle.std.proofs.Common.{◌≡◌, Bool, List, length, IsTrue}
use Rattle.cond_formula.specs.Features.{has}
use Rattle.cond_formula.specs.Conditions.{value}
use Rattle.told_units.proofs.Each.{GoesOn}
use Rattle.told_units.proofs.units.told_each.Given as goal

-- those that are left are ahead, and are as many as their trees
abbrev pub invariant-loop-unit : goal.invariant-loop-unit
invariant-loop-unit g l = record {
  alike : length l.unit-iterator.b.rest.now ≡ length l.unit-iterator.a.rest.now;
  kept : g.O.Oracle.admits l.oracle ≡ g.O.Oracle.admits l.fn.oracle;
  so_far : (n : List Bool) → IsTrue (value (has n) (g.O.Oracle.admits l.fn.oracle))
      → GoesOn (has n) l.bound l.left l.noted.tables l.noted.units.items l.units l.forests l.all.items l.unit-iterator.a.rest.now l.unit-iterator.b.rest.now;
}
