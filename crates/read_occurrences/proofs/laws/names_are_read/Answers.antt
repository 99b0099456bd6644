use Rattle.read_occurrences.proofs.Units.{names_read_so}
use Rattle.read_occurrences.proofs.laws.names_are_read.Goals as goal

pub returns : goal.returns
returns c =
    names_read_so c.units_are_derived.ensures c.units_name_parameters.ensures c.sizes_bind_nothing.ensures c.slots_are_of_functions.ensures c.judgements_bind_alike.ensures c.scopes_are_read.ensures
    c.identifiers_are_bound.ensures c.occurrences_are_bound.ensures c.declarations_are_occurrences.ensures c.uses_are_bound_before.ensures c.occurrences_keep_names.ensures c.spaces_tell_names.ensures
    c.bindings_tell_declarations.ensures
