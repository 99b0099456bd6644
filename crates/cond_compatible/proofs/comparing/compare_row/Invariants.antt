use Rattle.std.proofs.Common.{◌≡◌, ◌<◌, ℕ, Bool, true, ◌&&◌, List, length}
use Rattle.std.specs.Prelude.{Some, map, slice_get, IsTrue}
use Rattle.cond_formula.specs.Features.{has}
use Rattle.cond_formula.specs.Conditions.{value}
use Rattle.cond_compatible.specs.Depths.{structs_agree}
use Rattle.cond_compatible.specs.SeenTags.{tag_seen, said_at, said_alike}
use Rattle.cond_compatible.proofs.comparing.compare_row.Given as goal

abbrev pub invariant-loop-place : goal.invariant-loop-place
invariant-loop-place g l = record {
  kept : g.O.Oracle.admits l.oracle ≡ g.O.Oracle.admits l.fn.oracle;
  long : length l.conditions.items ≡ l.place;
  exact : (n : List Bool) → IsTrue (value (has n) (g.O.Oracle.admits l.fn.oracle)) → (k : ℕ) → k < l.place
      → said_at (has n) l.conditions.items k ≡ (said_alike (has n) l.alike l.number k
      && structs_agree (said_alike (has n) l.alike) (Some (tag_seen (has n) l.a)) (slice_get (map (tag_seen (has n)) l.structs) k));
  same : l.is_same ≡ true → (on : ℕ → Bool) (k : ℕ) → k < l.place → said_at on l.conditions.items k ≡ said_alike on l.alike l.number k;
}
