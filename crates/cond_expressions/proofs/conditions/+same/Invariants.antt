use Rattle.std.proofs.Common.{◌≡◌, map, drop}
use Rattle.cond_formula.specs.Conditions.{condition_of}
use Rattle.cond_expressions.proofs.conditions.+same.Given as goal

abbrev pub invariant-are_same-loop-i : goal.invariant-are_same-loop-i
invariant-are_same-loop-i l =
    map condition_of (drop l.i l.parts) ≡ map condition_of (drop l.i l.others) → map condition_of l.parts ≡ map condition_of l.others
