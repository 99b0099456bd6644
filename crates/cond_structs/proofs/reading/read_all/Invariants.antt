use Rattle.std.proofs.Common.{◌≡◌, ℕ, Bool, true, false, IsTrue, List, drop}
use Rattle.cond_formula.specs.Features.{has}
use Rattle.cond_formula.specs.Conditions.{condition_of, value}
use Rattle.conditional.specs.Entries.{seen}
use Rattle.core_meaning.specs.Entities.{Struct}
use Rattle.core_meaning.specs.UnitNames.{AllMembers}
use Rattle.declaration_readings.specs.Readings.{Going}
use Rattle.type_tables.specs.Seen.{seen_tables}
use Rattle.cond_structs.specs.Gathered.{gathered}
use Rattle.cond_structs.specs.Standing.{StandsSoFar}
use Rattle.cond_structs.specs.Walks.{AreDerived}
use Rattle.cond_structs.specs.Listing.{declarations_at}
use Rattle.cond_structs.proofs.Reaching.{Reaches}
use Rattle.cond_structs.proofs.reading.read_all.Given as goal

abbrev pub invariant-loop-d : goal.invariant-loop-d
invariant-loop-d g l = record {
  kept : g.O.Oracle.admits l.oracle ≡ g.O.Oracle.admits l.fn.oracle;
  elsewhere : (on : ℕ → Bool) → value on (condition_of l.when) ≡ false → seen_tables on l.tables ≡ seen_tables on l.fn.tables;
  reaches : (n : List Bool) (by : ℕ → ℕ) (before : List Struct) (number : ℕ) (k : Going AllMembers) → IsTrue (value (has n) (g.O.Oracle.admits l.fn.oracle)) → value (has n) (condition_of l.when) ≡ true
      → AreDerived (seen (has n) (declarations_at (has n) l.list)) → StandsSoFar by before (seen_tables (has n) l.fn.tables) (gathered (has n) l.fn.all) k
      → Reaches by before number k (seen (has n) (declarations_at (has n) l.list)) (seen_tables (has n) l.tables) (gathered (has n) l.members) (seen (has n) (declarations_at (has n) (drop l.d-index l.list)));
}
