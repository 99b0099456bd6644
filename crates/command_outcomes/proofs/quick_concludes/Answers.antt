use Rattle.command_outcomes.proofs.Quick.{quick_ends}
use Rattle.command_outcomes.proofs.quick_concludes.Goals as goal

pub returns : goal.returns
returns c = quick_ends c.placed_symbols_are_spelled.ensures c.taking_is_decided.ensures
