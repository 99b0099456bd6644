use Rattle.std.proofs.Common.{sym, ap, ◌∙◌}
use Rattle.c_types.specs.Types.{plain_type}
use Rattle.operand_rules.specs.PlainOperandTypes.{plain_operand_type, accepted}
use Rattle.operand_rules.proofs.ConditionRules.{fitted}
use Rattle.operand_rules.proofs.conditions.fitted.Goals as goal

pub returns : goal.returns
returns c = λ first. ap accepted c.fits_as.ensures ∙ sym (fitted first (plain_type c.args.ty.now) (plain_operand_type c.args.o.now))
