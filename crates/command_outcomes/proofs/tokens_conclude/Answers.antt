use Rattle.command_outcomes.proofs.Tokens.{tokens_end}
use Rattle.command_outcomes.proofs.tokens_conclude.Goals as goal

pub returns : goal.returns
returns c = tokens_end c.no_file_is_left_out.ensures c.units_have_outcomes.ensures
