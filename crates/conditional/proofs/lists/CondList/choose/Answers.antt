use Rattle.std.proofs.Common.{not, ap, ◌∙◌}
use Rattle.cond_formula.specs.Conditions.{Condition, condition_of, value}
use Rattle.conditional.specs.Entries.{listed, seen}
use Rattle.conditional.proofs.ListLaws.{chosen_list}
use Rattle.conditional.proofs.lists.CondList.choose.Goals as goal

pub returns : goal.returns
returns g c = λ on.
    chosen_list (value on (condition_of c.args.when.now)) (value on (condition_of c.in_ok-elsewhere.elsewhere)) (seen on (listed g.T.Plain.form c.empty-choice.result)) (seen on (listed g.T.Plain.form c.args.chosen.now)) (seen on (listed g.T.Plain.form c.args.otherwise.now)) _ _
    (c.in_ok-elsewhere.ensures.holds on ∙ ap (λ (k : Condition). not (value on k)) c.in_ok-try_clone.ensures) (c.empty-choice.ensures on) (c.in_ok-append_under.ensures on) (c.in_ok-append_under-2.ensures on)
