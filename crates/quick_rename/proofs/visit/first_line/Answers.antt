use Rattle.quick_rename.proofs.Walk.{lines_at, one_line}
use Rattle.quick_rename.proofs.visit.first_line.Goals as goal

pub returns-in-Some-clause-lines : goal.returns-in-Some-clause-lines
returns-in-Some-clause-lines c = lines_at c.args.text.now c.in-Some.i c.in-Some.ensures.within c.in-Some.ensures.some c.in-Some.ensures.first

pub returns-in-None-clause-lines : goal.returns-in-None-clause-lines
returns-in-None-clause-lines c = one_line c.args.text.now c.in-None.ensures.none
