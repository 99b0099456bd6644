use Rattle.std.proofs.Common.{refl, Some}
use Rattle.std.proofs.lemmas.Result.{IfOk-weaker}
use Rattle.choice_states.specs.Seen.{seen_in}
use Rattle.choice_settling.proofs.FrameLemmas.{begun_no_list}
use Rattle.choice_settling.proofs.settling.foreseen_inside.Goals as goal

pub returns-in-Some-clause-settled : goal.returns-in-Some-clause-settled
returns-in-Some-clause-settled c = IfOk-weaker c.foreseen_in_list.result _ _ (λ new settles. settles (Some c.args.behind) c.in-Some.ensures.some) c.foreseen_in_list.ensures.settled

pub returns-in-Some-list_at-clause-settled : goal.returns-in-Some-list_at-clause-settled
returns-in-Some-list_at-clause-settled c = IfOk-weaker c.foreseen_before_list.result _ _ (λ new settles on there holds.
    settles (c.in-Some-list_at.ensures.list, c.in-Some-list_at.ensures.node) (Some c.args.behind) c.args.parts.now.items on there refl) c.foreseen_before_list.ensures

pub returns-in-None-clause-settled : goal.returns-in-None-clause-settled
returns-in-None-clause-settled c = IfOk-weaker c.foreseen_end.result _ _ (λ new settles on there holds.
    settles (Some c.args.behind) (λ none. cc none) on there holds (begun_no_list (Some c.args.behind) c.args.place (seen_in on c.args.parts.now.items) (c.in_default.ensures.none refl))) c.foreseen_end.ensures.settled
