use Rattle.std.proofs.Common.{◌≡◌, Bool, List, ◌||◌, drop}
use Rattle.std.specs.Prelude.{IsTrue}
use Rattle.std.specs.List.{list_any}
use Rattle.cond_formula.specs.Features.{has}
use Rattle.cond_formula.specs.Conditions.{condition_of, value}
use Rattle.cond_compatible.specs.Depths.{sorts_agree}
use Rattle.cond_compatible.specs.SeenTags.{said_alike}
use Rattle.link_faults.specs.Gathered.{are_apart}
use Rattle.link_faults.proofs.comparing.where_apart_from_some.Given as goal

abbrev pub invariant-loop-b : goal.invariant-loop-b
invariant-loop-b g l = record {
  kept : g.O.Oracle.admits l.oracle ≡ g.O.Oracle.admits l.fn.oracle;
  exact : (n : List Bool) → IsTrue (value (has n) (g.O.Oracle.admits l.fn.oracle))
      → (value (has n) (condition_of l.so_far) || list_any (are_apart (has n) l.tables (sorts_agree (said_alike (has n) l.alike)) l.a) (drop l.b-index l.others))
      ≡ list_any (are_apart (has n) l.tables (sorts_agree (said_alike (has n) l.alike)) l.a) l.others;
}
