use Rattle.quick_parser.proofs.Machine.{tests_are_kept}
use Rattle.quick_parser.proofs.laws.tests_are_kept.Goals as goal

pub returns : goal.returns
returns c = tests_are_kept
