use Rattle.std.proofs.Common.{refl}
use Rattle.cond_formula.specs.ConditionLaws.{condition_of-True}
use Rattle.project_file.proofs.units.presence.Goals as goal

pub returns-in-None : goal.returns-in-None
returns-in-None c = rw (c.in-None.is, condition_of-True) (record { value_is = λ on. refl; below = tt })
