use Rattle.std.proofs.Common.{rules}
use Rattle.cond_formula.proofs.ConnectiveLaws.{disjunctions}
use Rattle.cond_formula.proofs.connectives.disjoined.Goals as goal

pub returns-in_ok-with_parts-in-Or : goal.returns-in_ok-with_parts-in-Or
returns-in_ok-with_parts-in-Or c = search (rules, disjunctions)

pub returns-in_ok-with_part-in_default : goal.returns-in_ok-with_part-in_default
returns-in_ok-with_part-in_default c = search (rules, disjunctions)
