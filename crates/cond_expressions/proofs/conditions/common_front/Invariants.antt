use Rattle.std.proofs.Common.{◌≡◌, map, take}
use Rattle.cond_formula.specs.Conditions.{condition_of}
use Rattle.cond_expressions.proofs.conditions.common_front.Given as goal

abbrev pub invariant-loop-i : goal.invariant-loop-i
invariant-loop-i l = record {
  counted : l.count ≡ l.i;
  same : map condition_of (take l.i l.a) ≡ map condition_of (take l.i l.b);
}
