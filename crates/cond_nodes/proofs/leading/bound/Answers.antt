use Rattle.cond_formula.specs.Features.{has}
use Rattle.conditional.specs.Entries.{Carry}
use Rattle.conditional.specs.Judgements.{Shows}
use Rattle.conditional.proofs.CrossingLaws.{one_judged}
use Rattle.std.proofs.Common.{subst}
use Rattle.operand_rules.specs.PlainOperandTypes.{plain_operand_type, reason}
use Rattle.cond_nodes.specs.Leading.{given_by}
use Rattle.cond_nodes.proofs.Led.{stands_given}
use Rattle.cond_nodes.proofs.leading.bound.Goals as goal

pub returns-clause-shows : goal.returns-clause-shows
returns-clause-shows g c = λ n gives a admitted leads shown.
    one_judged g.A.Plain.form plain_operand_type reason (has n) gives c.args.x c.in_ok-all.all c.in_ok-all-2.all
    (λ v stands. stands_given g.A.Plain.form gives (has n) v c.args.x.fine.alternatives.items c.in_ok-all.all stands
    (λ w carry. subst (λ xs. Carry (has n) w (given_by g.A.Plain.form gives xs) → Shows plain_operand_type reason (has n) (Rattle.conditional.specs.Entries.some_holds (has n) (given_by g.A.Plain.form gives xs)) w c.in_ok-all.all)
    c.deref.ensures.value (λ h. c.in_ok-all.ensures.shows n gives w admitted leads h) carry))
    (record { values = c.in_ok-all-2.ensures.values; refusals = c.in_ok-all-2.ensures.refusals (has n) }) a shown
