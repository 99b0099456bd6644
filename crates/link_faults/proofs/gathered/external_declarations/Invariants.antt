use Rattle.std.proofs.Common.{◌≡◌, ℕ, Bool, ◌||◌, drop}
use Rattle.std.specs.List.{list_any}
use Rattle.core_meaning.specs.Entities.{Sort}
use Rattle.core_meaning.specs.Linking.{external_sorts}
use Rattle.type_tables.specs.declared.tables.Tables.{Tables}
use Rattle.link_faults.specs.SeenUnits.{units_seen}
use Rattle.link_faults.specs.Gathered.{is_sort_so, some_declared}
use Rattle.link_faults.proofs.Gathering.{unit_so}
use Rattle.link_faults.proofs.gathered.external_declarations.Given as goal

abbrev pub invariant-loop-left : goal.invariant-loop-left
invariant-loop-left l = (on : ℕ → Bool) (tables : Tables) (test : Sort → Bool) →
    (some_declared on tables test l.all.items || list_any (unit_so on tables test l.name) (drop l.left-index l.units))
    ≡ list_any (is_sort_so test) (external_sorts (units_seen on tables l.units) l.name)
