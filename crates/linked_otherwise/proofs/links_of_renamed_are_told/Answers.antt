use Rattle.linked_otherwise.proofs.Trees.{renamed-told}
use Rattle.linked_otherwise.proofs.links_of_renamed_are_told.Goals as goal

pub returns : goal.returns
returns c =
    renamed-told c.units_are_derived.ensures c.units_of_programs_are_judged.ensures c.file_names_are_written.ensures c.units_of_programs_bind_alike.ensures
    c.names_are_one_to_one.ensures c.links_are_told.ensures
