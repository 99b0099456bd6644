use Rattle.renamed_programs.proofs.Programs.{programs_are_alike}
use Rattle.renamed_programs.proofs.laws.programs_are_alike.Goals as goal

pub returns : goal.returns
returns c = programs_are_alike c.units_are_derived.ensures
