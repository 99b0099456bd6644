use Rattle.std.proofs.Common.{◌≡◌, ℕ, Bool, List, [], length, map, IsTrue}
use Rattle.cond_formula.specs.Features.{has}
use Rattle.cond_formula.specs.Conditions.{value}
use Rattle.bindings.specs.Laws.{AreWritten}
use Rattle.core_meaning.specs.Checking.{Binding, fine}
use Rattle.core_meaning.specs.Entities.{Numbers}
use Rattle.core_meaning.specs.Linking.{Units, judged_units}
use Rattle.cond_scopes.specs.Units.{present_trees}
use Rattle.cond_units.specs.Seen.{seen_unit}
use Rattle.cond_unit_uses.specs.Noted.{uses_at}
use Rattle.cond_unit_uses.proofs.EachUnit.{IsReached}
use Rattle.cond_unit_uses.proofs.units.note_units.Given as goal

-- those that are left are ahead, and are as many as their trees
abbrev pub invariant-loop-unit : goal.invariant-loop-unit
invariant-loop-unit g l = record {
  alike : length l.unit-iterator.b.rest.now ≡ length l.unit-iterator.a.rest.now;
  kept : g.O.Oracle.admits l.oracle ≡ g.O.Oracle.admits l.fn.oracle;
  so_far : (n : List Bool) (globals : ℕ) (numbers : ℕ → Numbers) (linked : Units) (bindings : List Binding) → IsTrue (value (has n) (g.O.Oracle.admits l.fn.oracle))
      → AreWritten (present_trees (has n) l.units l.forests) → judged_units numbers globals 0 [] (present_trees (has n) l.units l.forests) ≡ fine linked bindings
      → IsReached (has n) globals numbers l.units (present_trees (has n) l.units l.forests) linked.structs (map (uses_at (has n)) l.all.items) (seen_unit (has n) l.next) l.unit-iterator.a.rest.now
      (present_trees (has n) l.unit-iterator.a.rest.now l.unit-iterator.b.rest.now);
}
