use Rattle.quick_parser.proofs.SymbolKinds.{numbers_are_alike}
use Rattle.quick_parser.proofs.laws.numbers_are_alike.Goals as goal

pub returns : goal.returns
returns c = numbers_are_alike
