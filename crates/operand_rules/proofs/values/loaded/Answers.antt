use Rattle.operand_types.specs.Operators.{loaded_type}
use Rattle.operand_rules.specs.PlainOperandTypes.{plain_operand_type}
use Rattle.operand_rules.specs.Rules.{loaded_rule}
use Rattle.operand_rules.proofs.Answering.{answers_at}
use Rattle.operand_rules.proofs.Loads.{loads}
use Rattle.operand_rules.proofs.values.loaded.Goals as goal

pub returns : goal.returns
returns c = answers_at _ (loaded_rule (plain_operand_type c.args.o.now)) (λ at. loaded_type at (plain_operand_type c.args.o.now)) (λ at. loads at (plain_operand_type c.args.o.now)) c.loaded_by_rule.ensures
