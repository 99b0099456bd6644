use Rattle.renamed_programs.proofs.Programs.{elaborations_are_alike}
use Rattle.renamed_programs.proofs.laws.elaborations_are_alike.Goals as goal

pub returns : goal.returns
returns c = elaborations_are_alike c.units_are_derived.ensures
