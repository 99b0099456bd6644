-- Operations on two values, and texts, where memory stays as it is (ISO/IEC 9899:2011, 6.5.5 to 6.5.12, 6.5.16.2).
use Rattle.std.specs.Prelude.{neg_ℤ, List, [], Option, Some, None, option_map, option_and_then}
use Rattle.c_types.specs.Types.{PlainType}
use Rattle.c_types.specs.Integers.{converted}
use Rattle.core_meaning.specs.declared.integers.IntegerType.{IntegerType}
use Rattle.core_meaning.specs.declared.expressions.Operation.{Operation}
use Rattle.core_meaning.specs.declared.expressions.Operation.TheVariants as operation
use Rattle.core_meaning.specs.declared.expressions.Change.{Change}
use Rattle.core_meaning.specs.declared.expressions.Change.TheVariants as change
use Rattle.core_meaning.specs.Program.{type_of, PlainProgram}
use Rattle.core_meaning.specs.Values.{Scalar, number, pointer}
use Rattle.core_meaning.specs.Memory.{Memory, moved, distance, compared}
use Rattle.core_meaning.specs.Meaning.{computed}

-- a number in an integer type
abbrev pub in_type_value : IntegerType → Scalar → Option Scalar
in_type_value t (number z) = Some (number (converted (type_of t) z))
in_type_value t (pointer p) = None

-- no other part of a program bears on operations and texts
abbrev pub with_structs : List (List PlainType) → PlainProgram
with_structs structs = record { structs = structs; functions = []; globals = []; literals = []; main = 0 }

module _ (structs : List (List PlainType)) (m : Memory) where
  abbrev pub operated_value : Operation → Scalar → Scalar → Option Scalar
  operated_value (operation.Numbers op t) (number x) (number y) = option_map number (computed op (type_of t) x y)
  operated_value operation.Forward (pointer q) (number y) = option_map pointer (moved structs m q y)
  operated_value operation.ForwardBy (number x) (pointer q) = option_map pointer (moved structs m q x)
  operated_value operation.Back (pointer q) (number y) = option_map pointer (moved structs m q (neg_ℤ y))
  operated_value operation.Distance (pointer q) (pointer r) = option_map number (distance structs m q r)
  operated_value (operation.Pointers op) (pointer q) (pointer r) = option_map number (compared structs op m q r)
  operated_value other x y = None

  abbrev pub changed_value : Change → Scalar → Scalar → Option Scalar
  changed_value (change.Numbers op t place_type) x y = option_and_then (in_type_value place_type) (operated_value (operation.Numbers op t) x y)
  changed_value change.Forward x y = operated_value operation.Forward x y
  changed_value change.Back x y = operated_value operation.Back x y
