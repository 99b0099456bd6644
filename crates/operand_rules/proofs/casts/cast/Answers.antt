use Rattle.std.proofs.Common.{◌≡◌}
use Rattle.std.specs.Prelude.{None}
use Rattle.c_types.specs.Types.{plain_type}
use Rattle.operand_types.specs.OperandTypes.{struct_in}
use Rattle.operand_types.specs.Operators.{cast_type}
use Rattle.operand_rules.specs.PlainOperandTypes.{plain_operand_type}
use Rattle.operand_rules.specs.Rules.{cast_rule}
use Rattle.operand_rules.proofs.Answering.{answers_if}
use Rattle.operand_rules.proofs.PrefixRules.{casts}
use Rattle.operand_rules.proofs.casts.cast.Goals as goal

pub returns : goal.returns
returns c =
    answers_if (struct_in (plain_type c.args.ty.now) ≡ None) _ (cast_rule (plain_type c.args.ty.now) (plain_operand_type c.args.o.now)) (λ bracket. cast_type bracket (plain_type c.args.ty.now) (plain_operand_type c.args.o.now))
    (λ h bracket. casts bracket (plain_type c.args.ty.now) (plain_operand_type c.args.o.now) h) c.cast_by_rule.ensures
