use Rattle.std.proofs.Common.{ℕ, Bool, drop}
use Rattle.cond_formula.specs.Conditions.{conditions_of}
use Rattle.reduced_conditions.specs.Literals.{AreTrue, EachHas}
use Rattle.reduced_conditions.proofs.literals.Literals.+shown.Given as goal

abbrev pub invariant-show_each-loop-part : goal.invariant-show_each-loop-part
invariant-show_each-loop-part l = (on : ℕ → Bool) → AreTrue on l.self → EachHas l.is_true on (conditions_of (drop l.part-index l.parts)) → EachHas l.is_true on (conditions_of l.parts)
