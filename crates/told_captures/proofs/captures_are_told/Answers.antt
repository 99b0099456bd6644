use Rattle.told_captures.proofs.Captures.{captures-told}
use Rattle.told_captures.proofs.captures_are_told.Goals as goal

pub returns : goal.returns
returns c =
    captures-told c.units_of_programs_are_judged.ensures c.links_of_renamed_are_told.ensures c.pairs_of_renamed_tell_bindings.ensures
