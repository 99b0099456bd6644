use Rattle.std.proofs.Common.{refl}
use Rattle.cond_formula.specs.ConditionLaws.{condition_of-False}
use Rattle.macro_table.proofs.meanings.clash_condition.Goals as goal

pub loop-definition-init : goal.loop-definition-init
loop-definition-init c = λ on. rw condition_of-False refl
