use Rattle.std.proofs.Common.{refl}
use Rattle.cond_formula.specs.ConditionLaws.{condition_of-False}
use Rattle.link_faults.proofs.availability.where_used.Goals as goal

pub loop-found-init : goal.loop-found-init
loop-found-init c = λ on. rw condition_of-False refl
