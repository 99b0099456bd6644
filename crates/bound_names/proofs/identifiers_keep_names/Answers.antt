use Rattle.bound_names.proofs.Readings.{names-kept}
use Rattle.bound_names.proofs.identifiers_keep_names.Goals as goal

pub returns : goal.returns
returns c = names-kept
