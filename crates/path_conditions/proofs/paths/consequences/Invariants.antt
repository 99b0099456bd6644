use Rattle.std.proofs.Common.{ℕ, Bool, IsTrue}
use Rattle.cond_formula.specs.Conditions.{conditions_of, all_true}
use Rattle.path_conditions.proofs.paths.consequences.Given as goal

abbrev pub invariant-loop-known : goal.invariant-loop-known
invariant-loop-known l = (on : ℕ → Bool) → IsTrue (all_true on (conditions_of l.path)) → IsTrue (all_true on (conditions_of l.more.items))
