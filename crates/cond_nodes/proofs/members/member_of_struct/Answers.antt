use Rattle.std.proofs.Common.{subst}
use Rattle.std.proofs.lemmas.Result.{IfOk-weaker}
use Rattle.cond_formula.specs.Features.{has}
use Rattle.conditional.specs.Judgements.{fine}
use Rattle.operand_rules.specs.PlainOperandTypes.{plain_category}
use Rattle.cond_operands.specs.Operands.{ShowsOperand}
use Rattle.cond_nodes.proofs.Arms.{member_if_any}
use Rattle.cond_nodes.proofs.members.member_of_struct.Goals as goal

pub returns-clause-shows : goal.returns-clause-shows
returns-clause-shows g c =
    IfOk-weaker c.led_or_refused.result _ _ (λ z shows n right admitted.
    subst (λ o. ShowsOperand (has n) o z) (member_if_any (plain_category c.args.category) ((g.K.Knowledge.known c.args.known.now n).members c.args.number c.args.name.now))
    (shows n (λ m. fine (record m { category = plain_category c.args.category })) ((g.K.Knowledge.known c.args.known.now n).members c.args.number c.args.name.now) admitted
    (record { leads_to = λ x w leads. leads }) (c.in_ok-members.ensures n right))) c.led_or_refused.ensures.shows
