use Rattle.std.proofs.Common.{rules}
use Rattle.cond_formula.proofs.ConnectiveLaws.{disjunctions}
use Rattle.cond_formula.proofs.formulas.Formula.or.Goals as goal

pub returns-in-False : goal.returns-in-False
returns-in-False c = search (rules, disjunctions)

pub returns-in-False-b : goal.returns-in-False-b
returns-in-False-b c = search (rules, disjunctions)

pub returns-in_ok-with_part-in-Or-b : goal.returns-in_ok-with_part-in-Or-b
returns-in_ok-with_part-in-Or-b c = search (rules, disjunctions)

pub returns-in_ok-pair-in_default-b : goal.returns-in_ok-pair-in_default-b
returns-in_ok-pair-in_default-b c = search (rules, disjunctions)
