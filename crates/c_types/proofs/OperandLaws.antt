-- Operands that are values of the types of their numbers.
use Rattle.std.proofs.Common.{ℤ}
use Rattle.c_types.specs.declared.arithmetic.BinaryOp.{BinaryOp}
use Rattle.c_types.specs.declared.arithmetic.BinaryOp.TheVariants.{Shl, Shr}
use Rattle.c_types.specs.Types.{PlainType}
use Rattle.c_types.specs.Integers.{IsValue}
use Rattle.c_types.specs.Arithmetic.{IsRightOperand}

-- a value of the type is a right operand of each operator
pub right_operand : (op : BinaryOp) (t : PlainType) (b : ℤ) → IsValue t b → IsRightOperand op t b
right_operand Shl t b h = tt
right_operand Shr t b h = tt
right_operand op t b h = h
