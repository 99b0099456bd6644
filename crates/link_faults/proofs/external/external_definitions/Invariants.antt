use Rattle.std.proofs.Common.{ℕ, Bool, drop}
use Rattle.core_meaning.specs.Linking.{count_external}
use Rattle.type_tables.specs.declared.tables.Tables.{Tables}
use Rattle.link_faults.specs.SeenUnits.{units_seen}
use Rattle.link_faults.specs.Measures.{SoFar}
use Rattle.link_faults.proofs.external.external_definitions.Given as goal

abbrev pub invariant-loop-left : goal.invariant-loop-left
invariant-loop-left l = (on : ℕ → Bool) (tables : Tables) →
    SoFar on l.so_far (count_external (units_seen on tables (drop l.left-index l.units)) l.name) (count_external (units_seen on tables l.units) l.name)
