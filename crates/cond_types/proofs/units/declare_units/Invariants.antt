use Rattle.std.proofs.Common.{◌≡◌, ℕ, Bool, List, length, IsTrue}
use Rattle.cond_formula.specs.Features.{has}
use Rattle.cond_formula.specs.Conditions.{value}
use Rattle.core_meaning.specs.Entities.{Numbers}
use Rattle.cond_types.proofs.EachUnit.{UnitsGone}
use Rattle.cond_types.proofs.Present.{SoPresent}
use Rattle.cond_types.proofs.units.declare_units.Given as goal

-- those that are left are ahead, and are as many as their trees
abbrev pub invariant-loop-unit : goal.invariant-loop-unit
invariant-loop-unit g l = record {
  alike : length l.unit-iterator.b.rest.now ≡ length l.unit-iterator.a.rest.now;
  kept : g.O.Oracle.admits l.oracle ≡ g.O.Oracle.admits l.fn.oracle;
  present : (n : List Bool) → IsTrue (value (has n) (g.O.Oracle.admits l.fn.oracle)) → SoPresent (has n) l.units l.all.units.items l.unit-iterator.a.rest.now;
  so_far : (n : List Bool) (globals : ℕ) (numbers : ℕ → Numbers) → IsTrue (value (has n) (g.O.Oracle.admits l.fn.oracle))
      → UnitsGone (has n) l.units l.forests globals numbers l.all l.unit-iterator.a.rest.now l.unit-iterator.b.rest.now;
}
