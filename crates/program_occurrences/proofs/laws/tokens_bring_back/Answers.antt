use Rattle.program_occurrences.proofs.Bringing.{tokens_bring_back}
use Rattle.program_occurrences.proofs.laws.tokens_bring_back.Goals as goal

pub returns : goal.returns
returns c = tokens_bring_back
