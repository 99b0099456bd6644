use Rattle.std.proofs.Common.{length}
use Rattle.plain_scope.proofs.entities.+local_in.Given as goal

abbrev pub decreases-local_in : goal.decreases-local_in
decreases-local_in l = length l.blocks.now
