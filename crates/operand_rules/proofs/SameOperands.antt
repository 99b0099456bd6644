-- Operands that are the same part by part are equal.
use Rattle.std.proofs.Common.{◌≡◌, Bool, refl}
use Rattle.c_types.specs.Types.{PlainType}
use Rattle.operand_types.specs.OperandTypes.{OperandType, Category}

pub same_operands : (s t : PlainType) (k l : Category) (m n a b : Bool) → s ≡ t → k ≡ l → m ≡ n → a ≡ b
    → ◌≡◌ {A = OperandType} (record { ty = s; category = k; is_null = m; has_complete_struct = a }) (record { ty = t; category = l; is_null = n; has_complete_struct = b })
same_operands s t k l m n a b st kl mn ab = rw st (rw kl (rw mn (rw ab refl)))
