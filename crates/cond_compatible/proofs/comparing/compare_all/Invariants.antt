use Rattle.std.proofs.Common.{◌≡◌, ◌<◌, ℕ, Bool, true, List, length}
use Rattle.std.specs.Prelude.{map, IsTrue}
use Rattle.cond_formula.specs.Features.{has}
use Rattle.cond_formula.specs.Conditions.{value}
use Rattle.cond_compatible.specs.Depths.{compared}
use Rattle.cond_compatible.specs.SeenTags.{tag_seen, said_in, said_alike}
use Rattle.cond_compatible.proofs.comparing.compare_all.Given as goal

abbrev pub invariant-loop-number : goal.invariant-loop-number
invariant-loop-number g l = record {
  kept : g.O.Oracle.admits l.oracle ≡ g.O.Oracle.admits l.fn.oracle;
  long : length l.rows.items ≡ l.number;
  exact : (n : List Bool) → IsTrue (value (has n) (g.O.Oracle.admits l.fn.oracle)) → (i j : ℕ) → i < l.number
      → said_in (has n) l.rows.items i j ≡ compared (said_alike (has n) l.alike) (map (tag_seen (has n)) l.structs) i j;
  same : l.is_same ≡ true → (on : ℕ → Bool) (i j : ℕ) → i < l.number → j < length l.structs → said_in on l.rows.items i j ≡ said_alike on l.alike i j;
}
