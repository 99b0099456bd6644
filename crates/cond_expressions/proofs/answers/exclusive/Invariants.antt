use Rattle.std.proofs.Common.{ℕ, Bool, drop}
use Rattle.cond_formula.specs.Conditions.{condition_of, value}
use Rattle.conditional.specs.Entries.{entries_of}
use Rattle.cond_expressions.specs.Values.{values_at}
use Rattle.cond_expressions.proofs.Exclusion.{SoFar}
use Rattle.cond_expressions.proofs.answers.exclusive.Given as goal

abbrev pub invariant-loop-i : goal.invariant-loop-i
invariant-loop-i l = (on : ℕ → Bool) →
    SoFar on (entries_of (λ w. w.value) l.alternatives) (entries_of (λ w. w.value) (drop l.i l.alternatives)) (value on (condition_of l.earlier)) (values_at on l.answers.items)
