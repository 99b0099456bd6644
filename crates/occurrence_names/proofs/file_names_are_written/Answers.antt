use Rattle.occurrence_names.proofs.FileNames.{names-written}
use Rattle.occurrence_names.proofs.file_names_are_written.Goals as goal

pub returns : goal.returns
returns c = names-written c.units_are_derived.ensures c.identifiers_are_bound.ensures c.occurrences_keep_names.ensures
