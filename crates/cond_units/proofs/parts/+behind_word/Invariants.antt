use Rattle.std.proofs.Common.{length}
use Rattle.cond_units.proofs.parts.+behind_word.Given as goal

abbrev pub decreases-behind_word : goal.decreases-behind_word
decreases-behind_word l = length l.parts.now
