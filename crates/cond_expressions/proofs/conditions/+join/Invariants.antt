use Rattle.std.proofs.Common.{◌+◌, ◌*◌}
use Rattle.cond_expressions.proofs.conditions.+join.Given as goal

abbrev pub decreases-either : goal.decreases-either
decreases-either l = 4 * l.levels

abbrev pub decreases-merged : goal.decreases-merged
decreases-merged l = 4 * l.levels + 3

abbrev pub decreases-factored : goal.decreases-factored
decreases-factored l = 4 * l.levels + 2

abbrev pub decreases-joined : goal.decreases-joined
decreases-joined l = 4 * l.levels + 2

abbrev pub decreases-either_rest : goal.decreases-either_rest
decreases-either_rest l = 4 * l.levels + 1
