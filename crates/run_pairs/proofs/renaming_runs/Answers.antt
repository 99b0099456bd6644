use Rattle.core_meaning.proofs.Growth.{larger_bound_reaches_lem}
use Rattle.run_pairs.proofs.Headline.{renaming_runs_lem}
use Rattle.run_pairs.proofs.renaming_runs.Goals as goal

pub returns : goal.returns
returns c = renaming_runs_lem larger_bound_reaches_lem
