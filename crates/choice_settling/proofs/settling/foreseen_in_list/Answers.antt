use Rattle.std.proofs.Common.{false, not, ap, ◌∙◌}
use Rattle.std.proofs.lemmas.Result.{IfOk-weaker}
use Rattle.choice_states.specs.Seen.{seen_in}
use Rattle.choice_states.specs.Parts.{is_empty, values}
use Rattle.choice_settling.proofs.SettlingLemmas.{so_at, so_list_unbegun, so_list_begun, so_list_either}
use Rattle.choice_settling.proofs.settling.foreseen_in_list.Goals as goal

pub returns-then-not-branch-clause-settled : goal.returns-then-not-branch-clause-settled
returns-then-not-branch-clause-settled c = λ outer list. so_at c.args.path.now c.args.here.now outer c.args.ahead.tokens.now c.args.place false c.args.parts.now.items

pub returns-then-is_excluded-clause-settled : goal.returns-then-is_excluded-clause-settled
returns-then-is_excluded-clause-settled c = λ outer list.
    so_list_unbegun c.args.path.now c.args.here.now outer c.args.ahead.tokens.now c.args.place c.args.around c.in_ok-some.some c.args.parts.now.items list
    (λ on there. c.in_ok-some.ensures on there ∙ ap (λ items. not (is_empty (values (seen_in on items)))) c.deref.ensures.value)
    (c.is_excluded.ensures c.if-is_excluded.true)

pub returns-then-follows-clause-settled : goal.returns-then-follows-clause-settled
returns-then-follows-clause-settled c = λ outer list.
    so_list_begun c.args.path.now c.args.here.now outer c.args.ahead.tokens.now c.args.place c.args.around c.in_ok-some.some c.args.parts.now.items list
    (λ on there. c.in_ok-some.ensures on there ∙ ap (λ items. not (is_empty (values (seen_in on items)))) c.deref.ensures.value)
    c.in_ok-begun.begun c.foreseen_end.new.parts.items c.in_ok-begun.ensures.settled (c.follows.ensures c.if-follows.true)

pub returns-clause-settled : goal.returns-clause-settled
returns-clause-settled c = IfOk-weaker c.joined.result _ _ (λ new as_split outer list.
    so_list_either c.args.path.now c.args.here.now outer c.args.ahead.tokens.now c.args.place c.args.around c.in_ok-some.some c.args.parts.now.items list
    (λ on there. c.in_ok-some.ensures on there ∙ ap (λ items. not (is_empty (values (seen_in on items)))) c.deref.ensures.value)
    c.in_ok-begun.begun new c.foreseen_end.new.parts.items c.in_ok-begun.ensures.settled as_split) c.joined.ensures
