use Rattle.core_meaning.proofs.Growth.{larger_bound_reaches_lem}
use Rattle.run_pairs.proofs.InliningLaw.{inlining_runs_lem}
use Rattle.run_pairs.proofs.inlining_runs.Goals as goal

pub returns : goal.returns
returns c = inlining_runs_lem larger_bound_reaches_lem
