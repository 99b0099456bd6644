use Rattle.run_outcomes.proofs.Run.{run_ends}
use Rattle.run_outcomes.proofs.run_concludes.Goals as goal

pub returns : goal.returns
returns c = run_ends c.no_file_is_left_out.ensures c.no_product_is_left_out.ensures
