use Rattle.std.proofs.Common.{not, ap, ◌∙◌}
use Rattle.cond_formula.specs.Conditions.{Condition, condition_of, value}
use Rattle.conditional.specs.Entries.{alternatives}
use Rattle.conditional.proofs.ValueLaws.{chosen}
use Rattle.conditional.proofs.values.CondValue.choose.Goals as goal

pub returns : goal.returns
returns g c = λ on p q sp sq.
    chosen on (condition_of c.args.when.now) (condition_of c.in_ok-elsewhere.elsewhere) (alternatives g.T.Plain.form c.args.chosen.now) (alternatives g.T.Plain.form c.args.otherwise.now) (alternatives g.T.Plain.form c.nothing-choice.result) _ _
    (c.in_ok-elsewhere.ensures.holds on ∙ ap (λ (k : Condition). not (value on k)) c.in_ok-try_clone.ensures) (c.nothing-choice.ensures on) (c.in_ok-place_under.ensures on) (c.in_ok-place_under-2.ensures on) p q sp sq
