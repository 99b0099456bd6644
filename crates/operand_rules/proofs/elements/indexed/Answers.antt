use Rattle.operand_types.specs.Operators.{indexed_type}
use Rattle.operand_rules.specs.PlainOperandTypes.{plain_operand_type}
use Rattle.operand_rules.specs.Rules.{indexed_rule}
use Rattle.operand_rules.proofs.Answering.{answers_at}
use Rattle.operand_rules.proofs.CombinationRules.{indexes}
use Rattle.operand_rules.proofs.elements.indexed.Goals as goal

pub returns : goal.returns
returns c =
    answers_at _ (indexed_rule (plain_operand_type c.args.o.now) (plain_operand_type c.args.p.now)) (λ bracket. indexed_type bracket (plain_operand_type c.args.o.now) (plain_operand_type c.args.p.now)) (λ bracket. indexes bracket (plain_operand_type c.args.o.now) (plain_operand_type c.args.p.now)) c.indexed_by_rule.ensures
