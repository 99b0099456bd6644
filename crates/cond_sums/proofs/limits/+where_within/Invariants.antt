use Rattle.std.proofs.Common.{length}
use Rattle.cond_sums.proofs.limits.+where_within.Given as goal

abbrev pub decreases-where_within : goal.decreases-where_within
decreases-where_within l = length l.parts.now
