use Rattle.morpheus_top.proofs.Calls.{calls_end}
use Rattle.morpheus_top.proofs.laws.calls_conclude.Goals as goal

pub returns : goal.returns
returns c = calls_end c.quick_concludes.ensures c.admit_concludes.ensures c.tokens_conclude.ensures c.run_concludes.ensures c.check_concludes.ensures c.rename_concludes.ensures
