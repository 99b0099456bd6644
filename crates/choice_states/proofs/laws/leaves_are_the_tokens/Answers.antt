use Rattle.choice_states.proofs.Reading.{leaves_are_the_tokens_lem}
use Rattle.choice_states.proofs.laws.leaves_are_the_tokens.Goals as goal

pub returns : goal.returns
returns c = leaves_are_the_tokens_lem
