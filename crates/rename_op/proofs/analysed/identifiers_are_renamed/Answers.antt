use Rattle.rename_op.proofs.Renamed.{identifiers_are}
use Rattle.rename_op.proofs.analysed.identifiers_are_renamed.Goals as goal

pub returns : goal.returns
returns c = identifiers_are c.tests_are_of_preconditions.ensures c.classes_stand_in_files.ensures
