use Rattle.std.proofs.Common.{rules}
use Rattle.cond_formula.proofs.ConnectiveLaws.{negations}
use Rattle.cond_formula.proofs.formulas.Formula.not.Goals as goal

pub returns-in-True : goal.returns-in-True
returns-in-True c = search (rules, negations)

pub returns-in-False : goal.returns-in-False
returns-in-False c = search (rules, negations)

pub returns-in-Not : goal.returns-in-Not
returns-in-Not c = search (rules, negations)

pub returns-in_ok-new-in_default : goal.returns-in_ok-new-in_default
returns-in_ok-new-in_default c = search (rules, negations)
