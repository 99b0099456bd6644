use Rattle.std.proofs.Common.{◌≡◌, ℕ, Bool, drop, IsTrue}
use Rattle.cond_formula.specs.Conditions.{conditions_of, all_true, any_true}
use Rattle.path_conditions.proofs.said.+said.Given as goal

abbrev pub invariant-all_are_excluded-loop-part : goal.invariant-all_are_excluded-loop-part
invariant-all_are_excluded-loop-part l =
    (on : ℕ → Bool) → IsTrue (all_true on (conditions_of l.path))
    → any_true on (conditions_of l.parts) ≡ any_true on (conditions_of (drop l.part-index l.parts))

abbrev pub invariant-all_follow-loop-part : goal.invariant-all_follow-loop-part
invariant-all_follow-loop-part l =
    (on : ℕ → Bool) → IsTrue (all_true on (conditions_of l.path))
    → all_true on (conditions_of l.parts) ≡ all_true on (conditions_of (drop l.part-index l.parts))
