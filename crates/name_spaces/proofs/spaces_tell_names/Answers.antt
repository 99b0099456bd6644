use Rattle.name_spaces.proofs.Told.{spaces_told}
use Rattle.name_spaces.proofs.spaces_tell_names.Goals as goal

pub returns : goal.returns
returns c =
    spaces_told c.units_are_derived.ensures c.sizes_bind_nothing.ensures c.judgements_bind_alike.ensures c.identifiers_are_bound.ensures
    c.uses_are_bound_before.ensures c.occurrences_keep_names.ensures c.file_names_are_written.ensures
