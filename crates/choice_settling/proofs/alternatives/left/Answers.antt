use Rattle.std.proofs.lemmas.Result.{IfOk-weaker}
use Rattle.choice_states.specs.Seen.{seen_in}
use Rattle.choice_states.specs.States.{standing, becoming, owes}
use Rattle.choice_settling.proofs.LeavingLemmas.{is_left}
use Rattle.choice_settling.proofs.alternatives.left.Goals as goal

pub returns : goal.returns
returns c = IfOk-weaker c.finished.result _ _ (λ after h on.
    is_left c.args.path.now c.args.when.now on (standing c.args.state on (seen_in on c.args.parts.items)) (standing c.in_ok-state.state on (seen_in on c.args.parts.items))
    (becoming after on) (owes c.in_ok-state.state on) (c.in_ok-state.ensures.alike on (seen_in on c.args.parts.items)) (c.in_ok-state.ensures.owed on (seen_in on c.args.parts.items)) (h on))
    c.finished.ensures
