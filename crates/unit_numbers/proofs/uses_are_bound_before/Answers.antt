use Rattle.unit_numbers.proofs.Uses.{uses_are_bound_before}
use Rattle.unit_numbers.proofs.uses_are_bound_before.Goals as goal

pub returns : goal.returns
returns c =
    uses_are_bound_before c.units_are_derived.ensures c.units_name_parameters.ensures c.sizes_bind_nothing.ensures c.kinds_are_alike.ensures c.slots_are_of_functions.ensures
    c.judgements_bind_alike.ensures c.file_names_are_used_alike.ensures c.uses_are_of_before.ensures
