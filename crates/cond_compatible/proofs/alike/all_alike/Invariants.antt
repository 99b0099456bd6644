use Rattle.std.proofs.Common.{◌≡◌, ◌<◌, ℕ, Bool, length}
use Rattle.std.specs.Prelude.{nat_lt}
use Rattle.cond_compatible.specs.SeenTags.{said_in}
use Rattle.cond_compatible.proofs.alike.all_alike.Given as goal

abbrev pub invariant-loop : goal.invariant-loop
invariant-loop l = record {
  long : length l.rows.items ≡ l.counter;
  full : (on : ℕ → Bool) (i j : ℕ) → i < l.counter → said_in on l.rows.items i j ≡ nat_lt j (length l.structs);
}
