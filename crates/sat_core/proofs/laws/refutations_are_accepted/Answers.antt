use Rattle.sat_core.proofs.AcceptanceLaws.{acceptance_law}
use Rattle.sat_core.proofs.laws.refutations_are_accepted.Goals as goal

pub returns : goal.returns
returns c = acceptance_law
