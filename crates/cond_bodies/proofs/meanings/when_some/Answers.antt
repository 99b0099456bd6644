use Rattle.std.proofs.Common.{refl}
use Rattle.cond_formula.specs.ConditionLaws.{condition_of-False}
use Rattle.cond_bodies.proofs.meanings.when_some.Goals as goal

pub loop-entry-init : goal.loop-entry-init
loop-entry-init g c = λ on. rw condition_of-False refl
