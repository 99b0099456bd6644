use Rattle.std.proofs.Common.{sym}
use Rattle.cond_formula.specs.ConditionLaws.{condition_of-False}
use Rattle.refuted_parts.proofs.parts.unless_refuted.Goals as goal

pub returns-in-No-clause-same : goal.returns-in-No-clause-same
returns-in-No-clause-same g c = λ n admitted. rw condition_of-False (sym (c.may.ensures.no c.in-No.is n admitted))
