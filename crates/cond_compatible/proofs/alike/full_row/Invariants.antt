use Rattle.std.proofs.Common.{◌≡◌, ◌<◌, ℕ, Bool, true, length}
use Rattle.cond_compatible.specs.SeenTags.{said_at}
use Rattle.cond_compatible.proofs.alike.full_row.Given as goal

abbrev pub invariant-loop : goal.invariant-loop
invariant-loop l = record {
  long : length l.conditions.items ≡ l.counter;
  full : (on : ℕ → Bool) (k : ℕ) → k < l.counter → said_at on l.conditions.items k ≡ true;
}
