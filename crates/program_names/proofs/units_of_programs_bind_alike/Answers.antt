use Rattle.program_names.proofs.Bound.{units_of_programs_bind_alike}
use Rattle.program_names.proofs.units_of_programs_bind_alike.Goals as goal

pub returns : goal.returns
returns c =
    units_of_programs_bind_alike c.units_of_programs_are_judged.ensures c.identifiers_are_bound.ensures c.judgements_bind_alike.ensures c.kinds_are_alike.ensures
    c.units_bind_alike.ensures c.units_leave_as_many_structs.ensures c.bindings_need_no_numbers.ensures
