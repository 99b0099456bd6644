use Rattle.c_text.specs.Token.{plain_token}
use Rattle.operand_types.specs.Operators.{assigned_type}
use Rattle.operand_rules.specs.PlainOperandTypes.{plain_operand_type}
use Rattle.operand_rules.specs.Rules.{assigned_rule}
use Rattle.operand_rules.proofs.Answering.{answers}
use Rattle.operand_rules.proofs.AssignmentRules.{assigns}
use Rattle.operand_rules.proofs.assignments.assigned.Goals as goal

pub returns : goal.returns
returns c =
    answers _ (assigned_rule (plain_token c.args.sign.now) (plain_operand_type c.args.o.now) (plain_operand_type c.args.p.now)) (assigned_type (plain_token c.args.sign.now) (plain_operand_type c.args.o.now) (plain_operand_type c.args.p.now)) (assigns (plain_token c.args.sign.now) (plain_operand_type c.args.o.now) (plain_operand_type c.args.p.now)) c.assigned_by_rule.ensures
