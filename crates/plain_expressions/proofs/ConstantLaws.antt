-- Constant expressions by cases.
use Rattle.std.proofs.Common.{◌≡◌, ◌&&◌, refl}
use Rattle.core_meaning.specs.declared.expressions.Operation.{Operation}
use Rattle.core_meaning.specs.declared.expressions.Operation.TheVariants as operation
use Rattle.core_meaning.specs.Program.{PlainExpression, binary}
use Rattle.core_meaning.specs.Constancy.{is_constant}
use Rattle.plain_expressions.specs.Constants.{is_of_numbers}

pub constant_operation : (op : Operation) (a b : PlainExpression) → is_constant (binary op a b) ≡ (is_of_numbers op && (is_constant a && is_constant b))
constant_operation (operation.Numbers op ty) a b = refl
constant_operation operation.Forward a b = refl
constant_operation operation.ForwardBy a b = refl
constant_operation operation.Back a b = refl
constant_operation operation.Distance a b = refl
constant_operation (operation.Pointers op) a b = refl
