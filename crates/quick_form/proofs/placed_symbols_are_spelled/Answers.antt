use Rattle.quick_form.proofs.PlaceLemmas.{placed_symbols_are_spelled_lem}
use Rattle.quick_form.proofs.placed_symbols_are_spelled.Goals as goal

pub returns : goal.returns
returns c = placed_symbols_are_spelled_lem
