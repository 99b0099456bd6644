use Rattle.std.proofs.Common.{◌≡◌, ℕ, Bool, List, drop, map}
use Rattle.std.specs.Prelude.{◌⊎◌, ◌↔◌, IsTrue}
use Rattle.cond_formula.specs.Features.{has}
use Rattle.cond_formula.specs.Conditions.{condition_of, value}
use Rattle.core_meaning.specs.Linking.{Units}
use Rattle.type_tables.specs.Seen.{seen_tables}
use Rattle.link_faults.specs.SeenUnits.{LeaveAlike}
use Rattle.link_faults.specs.Faulty.{StructsFollow, SomeHaveFaults}
use Rattle.link_faults.proofs.failing.where_some_have_faults.Given as goal

abbrev pub invariant-loop-name : goal.invariant-loop-name
invariant-loop-name g l = record {
  kept : g.O.Oracle.admits l.oracle ≡ g.O.Oracle.admits l.fn.oracle;
  exact : (n : List Bool) (by : ℕ → ℕ) (linked : Units) → IsTrue (value (has n) (g.O.Oracle.admits l.fn.oracle))
      → LeaveAlike (has n) l.tables by linked l.units → StructsFollow by (seen_tables (has n) l.tables) linked.structs
      → (IsTrue (value (has n) (condition_of l.so_far)) ⊎ SomeHaveFaults linked (map (λ v. v.items) (drop l.name-index l.names)))
      ↔ SomeHaveFaults linked (map (λ v. v.items) l.names);
}
