use Rattle.std.proofs.Common.{sym, ap, ◌∙◌}
use Rattle.operand_rules.specs.PlainOperandTypes.{plain_operand_type, accepted}
use Rattle.operand_rules.proofs.ConditionRules.{tests}
use Rattle.operand_rules.proofs.conditions.tested.Goals as goal

pub returns : goal.returns
returns c = λ first. ap accepted c.tests.ensures ∙ sym (tests first (plain_operand_type c.args.o.now))
