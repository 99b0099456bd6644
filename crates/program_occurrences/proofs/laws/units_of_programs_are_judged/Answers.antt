use Rattle.program_occurrences.proofs.Judged.{units_are_judged}
use Rattle.program_occurrences.proofs.laws.units_of_programs_are_judged.Goals as goal

pub returns : goal.returns
returns c = units_are_judged
