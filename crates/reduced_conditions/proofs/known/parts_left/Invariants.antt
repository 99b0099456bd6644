use Rattle.std.proofs.Common.{◌≡◌, ℕ, Bool, ◌&&◌, IsTrue, drop}
use Rattle.cond_formula.specs.Conditions.{condition_of, conditions_of, value, all_true}
use Rattle.reduced_conditions.proofs.known.parts_left.Given as goal

abbrev pub invariant-loop-part : goal.invariant-loop-part
invariant-loop-part l =
    ((on : ℕ → Bool) → value on (condition_of l.other) ≡ l.is_true → (value on (condition_of l.kept) && all_true on (conditions_of (drop l.part-index l.parts))) ≡ all_true on (conditions_of l.parts))
    × ((on : ℕ → Bool) → IsTrue (all_true on (conditions_of l.parts)) → IsTrue (value on (condition_of l.kept) && all_true on (conditions_of (drop l.part-index l.parts))))
