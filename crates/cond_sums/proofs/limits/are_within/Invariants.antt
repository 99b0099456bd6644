use Rattle.std.proofs.Common.{ℕ, ◌≤◌, Bool, drop}
use Rattle.cond_sums.specs.Sums.{sum_of}
use Rattle.cond_sums.proofs.limits.are_within.Given as goal

abbrev pub invariant-loop-part : goal.invariant-loop-part
invariant-loop-part l = (on : ℕ → Bool) → sum_of on (drop l.part-index l.parts) ≤ l.left → sum_of on l.parts ≤ l.limit
