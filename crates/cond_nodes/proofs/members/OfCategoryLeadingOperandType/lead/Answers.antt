use Rattle.std.proofs.Common.{subst}
use Rattle.cond_formula.specs.Features.{has}
use Rattle.conditional.specs.Judgements.{fine}
use Rattle.operand_rules.specs.PlainOperandTypes.{plain_category}
use Rattle.cond_operands.specs.Operands.{ShowsOperand}
use Rattle.cond_nodes.proofs.members.OfCategoryLeadingOperandType.lead.Goals as goal

pub returns-clause-leads : goal.returns-clause-leads
returns-clause-leads g c = λ n admitted.
    subst (λ o. ShowsOperand (has n) (fine (record o { category = plain_category c.args.self.now.category })) c.in_ok-one.one) c.in_ok-member.ensures (c.in_ok-one.ensures (has n))
