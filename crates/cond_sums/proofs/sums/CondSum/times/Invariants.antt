use Rattle.std.proofs.Common.{◌≡◌, ℕ, ◌+◌, ◌*◌, Bool, drop}
use Rattle.core_meaning.specs.Constancy.{capped}
use Rattle.cond_sums.specs.Sums.{sum_at, sum_of}
use Rattle.cond_sums.proofs.sums.CondSum.times.Given as goal

abbrev pub invariant-loop-part : goal.invariant-loop-part
invariant-loop-part l = (on : ℕ → Bool) → capped (sum_at on l.all + l.count * sum_of on (drop l.part-index l.self.parts.items)) ≡ capped (l.count * sum_at on l.self)
