use Rattle.std.proofs.Common.{take}
use Rattle.cond_formula.specs.Conditions.{condition_of}
use Rattle.feature_model.specs.Constraints.{Admits}
use Rattle.feature_model.proofs.model.conjoined.Given as goal

abbrev pub invariant-loop-place : goal.invariant-loop-place
invariant-loop-place l = Admits l.features (take l.place l.constraints) (condition_of l.formula)
