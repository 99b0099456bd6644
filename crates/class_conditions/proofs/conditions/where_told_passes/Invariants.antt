use Rattle.std.proofs.Common.{◌≡◌, ℕ, Bool, ◌||◌, drop}
use Rattle.cond_formula.specs.Conditions.{condition_of, value}
use Rattle.class_conditions.specs.Told.{some_unit_passes}
use Rattle.class_conditions.proofs.conditions.where_told_passes.Given as goal

-- with the units that are left it is all
abbrev pub invariant-loop-i : goal.invariant-loop-i
invariant-loop-i g l =
    (on : ℕ → Bool) → (value on (condition_of l.passed) || some_unit_passes on (g.T.UnitTest.passes l.test) (drop l.i l.streams) (drop l.i l.told))
    ≡ some_unit_passes on (g.T.UnitTest.passes l.test) l.streams l.told
