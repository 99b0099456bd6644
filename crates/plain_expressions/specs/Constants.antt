-- Steps in constant expressions.
use Rattle.std.specs.Prelude.{ℕ, Bool, true, false, Option, None, if◌then◌else◌}
use Rattle.c_types.specs.Integers.{is_integer}
use Rattle.core_meaning.specs.declared.expressions.Operation.{Operation}
use Rattle.core_meaning.specs.declared.expressions.Operation.TheVariants as operation
use Rattle.core_meaning.specs.Typing.{Typed}
use Rattle.core_meaning.specs.Constancy.{count_of_value, value_if_constant}

abbrev pub is_of_numbers : Operation → Bool
is_of_numbers (operation.Numbers op ty) = true
is_of_numbers other = false

-- the count of elements that a value is
abbrev pub count_in : Typed → Option ℕ
count_in x = if is_integer x.ty then count_of_value (value_if_constant x.core) else None
