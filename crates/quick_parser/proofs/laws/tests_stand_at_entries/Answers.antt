use Rattle.quick_parser.proofs.SymbolKinds.{tests_stand_at_entries}
use Rattle.quick_parser.proofs.laws.tests_stand_at_entries.Goals as goal

pub returns : goal.returns
returns c = tests_stand_at_entries
