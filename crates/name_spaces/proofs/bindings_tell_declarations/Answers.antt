use Rattle.name_spaces.proofs.Declared.{declarations_told}
use Rattle.name_spaces.proofs.bindings_tell_declarations.Goals as goal

pub returns : goal.returns
returns c =
    declarations_told c.judgements_bind_alike.ensures c.identifiers_are_bound.ensures c.occurrences_are_bound.ensures
    c.slots_are_of_functions.ensures
