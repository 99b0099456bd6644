use Rattle.c_text.specs.Token.{plain_token}
use Rattle.operand_types.specs.Operators.{stepped_type}
use Rattle.operand_rules.specs.PlainOperandTypes.{plain_operand_type}
use Rattle.operand_rules.specs.Rules.{stepped_rule}
use Rattle.operand_rules.proofs.Answering.{answers}
use Rattle.operand_rules.proofs.AssignmentRules.{steps}
use Rattle.operand_rules.proofs.assignments.stepped.Goals as goal

pub returns : goal.returns
returns c = answers _ (stepped_rule (plain_token c.args.sign.now) (plain_operand_type c.args.o.now)) (stepped_type (plain_token c.args.sign.now) (plain_operand_type c.args.o.now)) (steps (plain_token c.args.sign.now) (plain_operand_type c.args.o.now)) c.stepped_by_rule.ensures
