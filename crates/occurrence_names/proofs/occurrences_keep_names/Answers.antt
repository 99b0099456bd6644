use Rattle.occurrence_names.proofs.Kept.{names-kept}
use Rattle.occurrence_names.proofs.occurrences_keep_names.Goals as goal

pub returns : goal.returns
returns c =
    names-kept c.declarations_are_occurrences.ensures c.identifiers_are_bound.ensures c.occurrences_are_bound.ensures
    c.identifiers_keep_names.ensures c.slots_are_of_functions.ensures
