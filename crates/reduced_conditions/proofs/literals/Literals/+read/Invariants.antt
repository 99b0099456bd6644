use Rattle.std.proofs.Common.{ℕ, Bool, IsTrue, drop}
use Rattle.cond_formula.specs.Conditions.{conditions_of}
use Rattle.reduced_conditions.specs.Literals.{AreTrue, EachHas}
use Rattle.reduced_conditions.proofs.literals.Literals.+read.Given as goal

abbrev pub invariant-take_each-loop-part : goal.invariant-take_each-loop-part
invariant-take_each-loop-part l =
    ((on : ℕ → Bool) → AreTrue on l.fn.self → EachHas l.is_true on (conditions_of l.parts) → AreTrue on l.self)
    × ((IsTrue l.self.are_all → IsTrue l.fn.self.are_all)
    × (((on : ℕ → Bool) → AreTrue on l.self → AreTrue on l.fn.self)
    × (IsTrue l.self.are_all → (on : ℕ → Bool) → AreTrue on l.self → EachHas l.is_true on (conditions_of (drop l.part-index l.parts)) → EachHas l.is_true on (conditions_of l.parts))))
