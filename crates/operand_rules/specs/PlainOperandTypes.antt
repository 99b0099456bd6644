-- What operands are to the operators around them, without pointers and room in memory.
use Rattle.std.specs.Prelude.{Bool, true, false, Result}
use Rattle.c_types.specs.Types.{plain_type}
use Rattle.conditional.specs.Judgements.{Checked, fine, refused, checked}
use Rattle.operand_types.specs.OperandTypes as spec
use Rattle.operand_types.specs.OperandTypes.{rvalue, lvalue}
use Rattle.operand_rules.specs.declared.operands.Category.{Category}
use Rattle.operand_rules.specs.declared.operands.Category.TheVariants.{Value, Object}
use Rattle.operand_rules.specs.declared.operands.OperandType.{OperandType}
use Rattle.operand_rules.specs.declared.operands.Refused.{Refused}

abbrev pub plain_category : Category → spec.Category
plain_category Value = rvalue
plain_category (Object free) = lvalue free

abbrev pub plain_operand_type : OperandType → spec.OperandType
plain_operand_type x = record {
  ty = plain_type x.ty;
  category = plain_category x.category;
  is_null = x.is_null;
  has_complete_struct = x.has_complete_struct;
}

abbrev pub reason : Refused → Unit {0}
reason why = tt

-- what an operator gives of types
abbrev pub judgement : Result OperandType Refused → Checked spec.OperandType (Unit {0})
judgement r = checked plain_operand_type reason r

-- what a test gives
abbrev pub accepted : Bool → Checked (Unit {0}) (Unit {0})
accepted true = fine tt
accepted false = refused tt
