use Rattle.std.proofs.Common.{not, ap, ◌∙◌, subst}
use Rattle.cond_formula.specs.Features.{has}
use Rattle.cond_formula.specs.Conditions.{condition_of}
use Rattle.conditional.specs.Entries.{entries_of, some_holds, Carry}
use Rattle.conditional.specs.Judgements.{Shows}
use Rattle.operand_rules.specs.PlainOperandTypes.{plain_operand_type, reason}
use Rattle.cond_nodes.specs.Leading.{given_by}
use Rattle.cond_nodes.proofs.Led.{given_or_refused}
use Rattle.cond_nodes.proofs.leading.led_or_refused.Goals as goal

pub returns-clause-shows : goal.returns-clause-shows
returns-clause-shows g c = λ n gives a admitted leads sees.
    given_or_refused g.A.Plain.form gives (has n) c.args.x.now.alternatives.items (condition_of c.in_ok-elsewhere.elsewhere) c.in_ok-all.all c.place.new.self
    (c.in_ok-elsewhere.ensures.holds (has n) ∙ ap not (c.in_ok-some.ensures (has n) ∙ ap (λ xs. some_holds (has n) (entries_of g.A.Plain.form xs)) c.deref-2.ensures.value))
    (λ w carry. subst (λ xs. Carry (has n) w (given_by g.A.Plain.form gives xs) → Shows plain_operand_type reason (has n) (some_holds (has n) (given_by g.A.Plain.form gives xs)) w c.in_ok-all.all)
    c.deref.ensures.value (λ h. c.in_ok-all.ensures.shows n gives w admitted leads h) carry)
    (c.in_ok-place.ensures (has n)) a sees
