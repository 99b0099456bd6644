use Rattle.program_occurrences.proofs.Entities.{declarations_are_occurrences}
use Rattle.program_occurrences.proofs.laws.declarations_are_occurrences.Goals as goal

pub returns : goal.returns
returns c = declarations_are_occurrences
