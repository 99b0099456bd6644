use Rattle.interp_actions.specs.StackLaws.{fails_behind}
use Rattle.run_calls.proofs.calls.return_to.Goals as goal

pub returns-in-None : goal.returns-in-None
returns-in-None c = fails_behind _ _ (c.in-None.ensures.none _ _)
