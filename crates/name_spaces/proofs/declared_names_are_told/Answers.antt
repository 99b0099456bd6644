use Rattle.name_spaces.proofs.Names.{declared_names}
use Rattle.name_spaces.proofs.declared_names_are_told.Goals as goal

pub returns : goal.returns
returns c =
    declared_names c.occurrences_are_bound.ensures c.spaces_tell_names.ensures c.bindings_tell_declarations.ensures
