use Rattle.std.proofs.Common.{length}
use Rattle.cond_name_spaces.proofs.tags.+name_in.Given as goal

abbrev pub decreases-name_in : goal.decreases-name_in
decreases-name_in l = length l.words.now
