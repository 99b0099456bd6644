use Rattle.std.proofs.Common.{◌≡◌, ℕ, Bool, List}
use Rattle.std.specs.Prelude.{IsTrue}
use Rattle.cond_formula.specs.Features.{has}
use Rattle.cond_formula.specs.Conditions.{value}
use Rattle.cond_compatible.specs.Depths.{alike_to}
use Rattle.cond_compatible.specs.SeenTags.{tags_seen, said_alike}
use Rattle.cond_compatible.proofs.comparing.alike_structs.Given as goal

abbrev pub invariant-loop : goal.invariant-loop
invariant-loop g l = record {
  kept : g.O.Oracle.admits l.oracle ≡ g.O.Oracle.admits l.fn.oracle;
  alike : (n : List Bool) → IsTrue (value (has n) (g.O.Oracle.admits l.fn.oracle)) → (i j : ℕ)
      → said_alike (has n) l.alike i j ≡ alike_to (tags_seen (has n) l.tables) l.counter i j;
}
