use Rattle.refute_check.proofs.Soundness.{refutation_law}
use Rattle.refute_check.proofs.laws.refuted_clauses_are_unsatisfiable.Goals as goal

pub returns : goal.returns
returns c = refutation_law
