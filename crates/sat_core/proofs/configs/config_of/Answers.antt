use Rattle.std.proofs.Common.{get_or, false, arith}
use Rattle.sat_core.proofs.ConfigLaws.{has_at, has_not}
use Rattle.sat_core.proofs.configs.config_of.Goals as goal

pub returns-clause-on : goal.returns-clause-on
returns-clause-on c = λ feature within.
    has_at c.loop-feature.bits feature (get_or c.args.values.now feature false) (omega arith) (c.loop-feature.invariant.on feature (omega arith))

pub returns-clause-off : goal.returns-clause-off
returns-clause-off c = λ feature past. has_not c.loop-feature.bits feature (c.loop-feature.invariant.off feature (omega arith))
