use Rattle.std.proofs.Common.{length}
use Rattle.cond_unit_uses.proofs.parts.+behind_parenthesis.Given as goal

abbrev pub decreases-behind_parenthesis : goal.decreases-behind_parenthesis
decreases-behind_parenthesis l = length l.parts.now
