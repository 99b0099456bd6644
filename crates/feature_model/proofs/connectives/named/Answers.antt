use Rattle.std.proofs.Common.{ap}
use Rattle.cond_formula.specs.ConditionLaws.{condition_of-Var, condition_of-False}
use Rattle.feature_model.specs.Trees.{on_feature}
use Rattle.feature_model.proofs.connectives.named.Goals as goal

pub returns-in-Some-clause-value : goal.returns-in-Some-clause-value
returns-in-Some-clause-value c = λ on. rw condition_of-Var (ap (on_feature on) c.in-Some.ensures.first)

pub returns-in-None-clause-value : goal.returns-in-None-clause-value
returns-in-None-clause-value c = λ on. rw condition_of-False (ap (on_feature on) c.in-None.ensures.first)

pub returns-in-Some-clause-below : goal.returns-in-Some-clause-below
returns-in-Some-clause-below c = rw condition_of-Var c.in-Some.ensures.bound

pub returns-in-None-clause-below : goal.returns-in-None-clause-below
returns-in-None-clause-below c = rw condition_of-False tt
