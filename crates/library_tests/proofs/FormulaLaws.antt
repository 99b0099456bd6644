-- The features of a formula that is one feature.
use Rattle.std.proofs.Common.{ℕ, ◌<◌}
use Rattle.cond_formula.specs.declared.formulas.Formula.{Var}
use Rattle.cond_formula.specs.Conditions.{condition_of, VarsBelow}
use Rattle.cond_formula.specs.ConditionLaws.{condition_of-Var}

pub feature_below : (count feature : ℕ) → feature < count → VarsBelow count (condition_of (Var feature))
feature_below count feature below = rw (condition_of-Var feature) below
