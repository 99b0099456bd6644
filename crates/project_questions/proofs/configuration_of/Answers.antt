use Rattle.std.proofs.Common.{subst}
use Rattle.project_questions.specs.Questions.{IsTrueIn, IsFound}
use Rattle.project_questions.proofs.Found.{none-shown}
use Rattle.project_questions.proofs.configuration_of.Goals as goal

pub returns-in-Least : goal.returns-in-Least
returns-in-Least c = λ project condition is. subst (IsFound project (IsTrueIn condition)) c.in-Least.is is

pub returns-in-Never : goal.returns-in-Never
returns-in-Never c = λ project condition is. none-shown project (IsTrueIn condition) c.in-Never.field-0 (subst (IsFound project (IsTrueIn condition)) c.in-Never.is is)
