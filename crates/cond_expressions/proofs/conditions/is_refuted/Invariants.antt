use Rattle.std.proofs.Common.{ℕ, Bool, IsTrue, drop}
use Rattle.cond_formula.specs.Conditions.{conditions_of, all_true}
use Rattle.cond_expressions.proofs.conditions.is_refuted.Given as goal

abbrev pub invariant-loop-fact : goal.invariant-loop-fact
invariant-loop-fact l = (on : ℕ → Bool) → IsTrue (all_true on (conditions_of l.facts)) → IsTrue (all_true on (conditions_of (drop l.fact-index l.facts)))
