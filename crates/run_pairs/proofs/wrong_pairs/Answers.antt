use Rattle.core_meaning.proofs.Growth.{larger_bound_reaches_lem}
use Rattle.run_pairs.proofs.Headline.{extraction_runs_lem}
use Rattle.run_pairs.proofs.WrongPairs.{wrong_pairs_lem}
use Rattle.run_pairs.proofs.wrong_pairs.Goals as goal

pub returns : goal.returns
returns c = wrong_pairs_lem (extraction_runs_lem larger_bound_reaches_lem)
