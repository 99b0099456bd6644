use Rattle.class_occurrences.proofs.Preconditions.{tests-are}
use Rattle.class_occurrences.proofs.laws.tests_are_of_preconditions.Goals as goal

pub returns : goal.returns
returns c = tests-are
