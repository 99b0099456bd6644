use Rattle.std.proofs.Common.{refl}
use Rattle.cond_formula.specs.ConditionLaws.{condition_of-False, condition_of-True}
use Rattle.refuted_parts.proofs.parts.+refuted.Goals as goal

pub any_of-loop-part-init : goal.any_of-loop-part-init
any_of-loop-part-init g t c = record { kept = refl; so_far = λ n admitted. rw condition_of-False refl }

pub all_of-loop-part-init : goal.all_of-loop-part-init
all_of-loop-part-init g t c = record { kept = refl; so_far = λ n admitted. rw condition_of-True refl }
