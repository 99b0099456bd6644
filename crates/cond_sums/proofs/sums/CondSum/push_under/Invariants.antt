use Rattle.std.proofs.Common.{◌≡◌, ℕ, ◌+◌, Bool, drop}
use Rattle.cond_formula.specs.Conditions.{condition_of, value}
use Rattle.core_meaning.specs.Constancy.{capped}
use Rattle.cond_sums.specs.Sums.{counted, sum_at, sum_of}
use Rattle.cond_sums.proofs.sums.CondSum.push_under.Given as goal

abbrev pub invariant-loop-part : goal.invariant-loop-part
invariant-loop-part l = (on : ℕ → Bool) →
    capped (sum_at on l.self + counted (value on (condition_of l.when)) (sum_of on (drop l.part-index l.other.parts.items)))
    ≡ capped (sum_at on l.fn.self + counted (value on (condition_of l.when)) (sum_at on l.other))
