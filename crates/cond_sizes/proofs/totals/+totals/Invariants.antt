use Rattle.std.proofs.Common.{length}
use Rattle.cond_sizes.proofs.totals.+totals.Given as goal

abbrev pub decreases-totals : goal.decreases-totals
decreases-totals g a = length a.parts.now
