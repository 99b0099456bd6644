use Rattle.brought_names.proofs.Alike.{brought-alike}
use Rattle.brought_names.proofs.brought_are_named_alike.Goals as goal

pub returns : goal.returns
returns c =
    brought-alike c.declarations_are_occurrences.ensures c.units_of_programs_are_judged.ensures c.occurrences_keep_names.ensures
    c.file_names_are_written.ensures
