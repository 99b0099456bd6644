use Rattle.interp_actions.proofs.evaluation.truth_value.Goals as goal

pub returns-in-None : goal.returns-in-None
returns-in-None c = record { undefined = λ p types slots n s. c.in-None.ensures.none _ s }
