use Rattle.std.proofs.Common.{◌≡◌, ℕ, ◌^◌, ◌<◌, ◌≤◌, false, eqb, get_or}
use Rattle.std.specs.Int.{bit_at}
use Rattle.sat_core.proofs.configs.config_of.Given as goal

abbrev pub invariant-loop-feature : goal.invariant-loop-feature
invariant-loop-feature l = record {
  small : l.bits < 2 ^ 128;
  on : (k : ℕ) → k < l.feature → eqb (bit_at l.bits k) 1 ≡ get_or l.values k false;
  off : (k : ℕ) → l.feature ≤ k → bit_at l.bits k ≡ 0;
}
