use Rattle.bindings.proofs.Lawful.{file_names_are_used_alike}
use Rattle.bindings.proofs.laws.file_names_are_used_alike.Goals as goal

pub returns : goal.returns
returns c = file_names_are_used_alike c.units_are_derived.ensures
