use Rattle.std.proofs.Common.{refl, arith}
use Rattle.std.proofs.lemmas.List.{drop_all}
use Rattle.cond_formula.specs.ConditionLaws.{condition_of-True}
use Rattle.cond_expressions.proofs.conditions.split.Goals as goal

pub returns-then-count-len-clause-rest : goal.returns-then-count-len-clause-rest
returns-then-count-len-clause-rest c = λ on. rw (condition_of-True, drop_all c.args.count c.args.parts.items (omega arith)) refl
