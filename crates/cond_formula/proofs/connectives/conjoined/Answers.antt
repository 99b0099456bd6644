use Rattle.std.proofs.Common.{rules}
use Rattle.cond_formula.proofs.ConnectiveLaws.{conjunctions}
use Rattle.cond_formula.proofs.connectives.conjoined.Goals as goal

pub returns-in_ok-with_parts-in-And : goal.returns-in_ok-with_parts-in-And
returns-in_ok-with_parts-in-And c = search (rules, conjunctions)

pub returns-in_ok-with_part-in_default : goal.returns-in_ok-with_part-in_default
returns-in_ok-with_part-in_default c = search (rules, conjunctions)
