use Rattle.std.proofs.Common.{◌≡◌, Bool, List, ◌||◌, drop}
use Rattle.std.specs.Prelude.{IsTrue}
use Rattle.std.specs.List.{list_any}
use Rattle.cond_formula.specs.Features.{has}
use Rattle.cond_formula.specs.Conditions.{condition_of, value}
use Rattle.cond_compatible.specs.Depths.{sorts_agree}
use Rattle.cond_compatible.specs.SeenTags.{said_alike}
use Rattle.link_faults.specs.Gathered.{are_apart}
use Rattle.link_faults.proofs.comparing.where_some_are_apart.Given as goal

abbrev pub invariant-loop-a : goal.invariant-loop-a
invariant-loop-a g l = record {
  kept : g.O.Oracle.admits l.oracle ≡ g.O.Oracle.admits l.fn.oracle;
  exact : (n : List Bool) → IsTrue (value (has n) (g.O.Oracle.admits l.fn.oracle))
      → (value (has n) (condition_of l.so_far) || list_any (λ a. list_any (are_apart (has n) l.tables (sorts_agree (said_alike (has n) l.alike)) a) l.all) (drop l.a-index l.all))
      ≡ list_any (λ a. list_any (are_apart (has n) l.tables (sorts_agree (said_alike (has n) l.alike)) a) l.all) l.all;
}
