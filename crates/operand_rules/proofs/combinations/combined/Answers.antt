use Rattle.c_text.specs.Token.{plain_token}
use Rattle.operand_types.specs.Operators.{combined_type}
use Rattle.operand_rules.specs.PlainOperandTypes.{plain_operand_type}
use Rattle.operand_rules.specs.Rules.{combined_rule}
use Rattle.operand_rules.proofs.Answering.{answers}
use Rattle.operand_rules.proofs.CombinationRules.{combines}
use Rattle.operand_rules.proofs.combinations.combined.Goals as goal

pub returns : goal.returns
returns c =
    answers _ (combined_rule c.args.kind (plain_token c.args.sign.now) (plain_operand_type c.args.o.now) (plain_operand_type c.args.p.now)) (combined_type c.args.kind (plain_token c.args.sign.now) (plain_operand_type c.args.o.now) (plain_operand_type c.args.p.now)) (combines c.args.kind (plain_token c.args.sign.now) (plain_operand_type c.args.o.now) (plain_operand_type c.args.p.now)) c.combined_by_rule.ensures
