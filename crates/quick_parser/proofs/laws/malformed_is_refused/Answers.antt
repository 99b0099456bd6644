use Rattle.quick_parser.proofs.SymbolKinds.{malformed_is_refused}
use Rattle.quick_parser.proofs.laws.malformed_is_refused.Goals as goal

pub returns : goal.returns
returns c = malformed_is_refused
