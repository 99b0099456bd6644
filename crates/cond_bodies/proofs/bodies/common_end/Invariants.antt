use Rattle.std.proofs.Common.{◌≤◌, length}
use Rattle.cond_bodies.proofs.bodies.common_end.Given as goal

abbrev pub invariant-loop-i : goal.invariant-loop-i
invariant-loop-i l = l.i ≤ length l.tokens
