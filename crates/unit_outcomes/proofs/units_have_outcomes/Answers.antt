use Rattle.unit_outcomes.proofs.Outcomes.{units-have}
use Rattle.unit_outcomes.proofs.units_have_outcomes.Goals as goal

pub returns : goal.returns
returns c = units-have c.lines_are_one.ensures c.projects_have_syntax.ensures
