use Rattle.quick_parser.proofs.SymbolKinds.{names_are_alike}
use Rattle.quick_parser.proofs.laws.names_are_alike.Goals as goal

pub returns : goal.returns
returns c = names_are_alike
