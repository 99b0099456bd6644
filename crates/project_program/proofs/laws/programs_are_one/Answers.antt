use Rattle.project_program.proofs.OneLaws.{programs_one}
use Rattle.project_program.proofs.laws.programs_are_one.Goals as goal

pub returns : goal.returns
returns c = programs_one c.outcomes_are_one.ensures c.tokens_spell_one_unit.ensures
