use Rattle.program_names.proofs.Linked.{names_are_linked_alike}
use Rattle.program_names.proofs.names_are_linked_alike.Goals as goal

pub returns : goal.returns
returns c = names_are_linked_alike c.units_of_programs_are_judged.ensures c.bound_names_are_visible.ensures c.file_names_are_written.ensures c.bindings_need_no_numbers.ensures
