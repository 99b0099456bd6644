use Rattle.program_names.proofs.OneToOne.{names_are_one_to_one}
use Rattle.program_names.proofs.names_are_one_to_one.Goals as goal

pub returns : goal.returns
returns c = names_are_one_to_one
