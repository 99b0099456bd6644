use Rattle.std.proofs.Common.{rules}
use Rattle.cond_formula.proofs.ConnectiveLaws.{conjunctions}
use Rattle.cond_formula.proofs.formulas.Formula.and.Goals as goal

pub returns-in-True : goal.returns-in-True
returns-in-True c = search (rules, conjunctions)

pub returns-in-True-b : goal.returns-in-True-b
returns-in-True-b c = search (rules, conjunctions)

pub returns-in_ok-with_part-in-And-b : goal.returns-in_ok-with_part-in-And-b
returns-in_ok-with_part-in-And-b c = search (rules, conjunctions)

pub returns-in_ok-pair-in_default-b : goal.returns-in_ok-pair-in_default-b
returns-in_ok-pair-in_default-b c = search (rules, conjunctions)
