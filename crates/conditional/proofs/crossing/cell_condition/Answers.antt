use Rattle.std.proofs.Common.{rules}
use Rattle.conditional.proofs.CrossingLaws.{cell_of_column, cell_of_pair}
use Rattle.conditional.proofs.crossing.cell_condition.Goals as goal

pub returns-then-branch : goal.returns-then-branch
returns-then-branch g c = λ gives computes on. cell_of_column on gives _ _ _ _ _ (search rules) (search rules)

pub returns : goal.returns
returns g c = λ gives computes on. cell_of_pair on gives _ _ _ _ _ (c.in_ok-when-2.ensures on) (computes.computes c.args.x.now.what c.args.y.now.what c.args.outcome.now c.requires)
