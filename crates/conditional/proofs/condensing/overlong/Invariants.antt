use Rattle.std.proofs.Common.{◌<◌, length}
use Rattle.conditional.proofs.condensing.overlong.Given as goal

abbrev pub invariant-loop-i : goal.invariant-loop-i
invariant-loop-i g l = l.longest < length l.alternatives
