-- Types of operands (ISO/IEC 9899:2011, 6.3, 6.5).
use Rattle.std.specs.Prelude.{ℕ, ◌==◌, nat_le, Bool, true, false, not, ◌&&◌, ◌||◌, List, Option, Some, None, slice_get, if◌then◌else◌}
use Rattle.c_text.specs.Token.{PlainToken}
use Rattle.c_types.specs.Types.{PlainType, void, char, unsigned_char, int, unsigned_int, long, unsigned_long, pointer_to, array_of, structure}
use Rattle.c_types.specs.Integers.{is_integer}
use Rattle.core_meaning.specs.declared.integers.IntegerType.{IntegerType}
use Rattle.core_meaning.specs.declared.integers.IntegerType.TheVariants.{Char, UnsignedChar, Int, UnsignedInt, Long, UnsignedLong}
use Rattle.core_meaning.specs.declared.refusals.TypeKind.TheVariants.{Incomplete}
use Rattle.core_meaning.specs.Program.{PlainExpression, null_constant, read, first_element, convert, PlainPlace}
use Rattle.core_meaning.specs.Checking.{Checked, refused, give}
use Rattle.core_meaning.specs.Entities.{Struct, Scope}

-- the operand of an arithmetic operator after the integer promotions (6.3.1.1)
abbrev pub promoted : PlainType → PlainType
promoted char = int
promoted unsigned_char = int
promoted other = other

abbrev pub rank : PlainType → ℕ
rank unsigned_int = 1
rank long = 2
rank unsigned_long = 3
rank other = 0

-- the type to which two arithmetic operands are converted (6.3.1.8)
abbrev pub common : PlainType → PlainType → PlainType
common a b = if nat_le (rank (promoted a)) (rank (promoted b)) then promoted b else promoted a

abbrev pub integer_type : PlainType → IntegerType
integer_type char = Char
integer_type unsigned_char = UnsignedChar
integer_type unsigned_int = UnsignedInt
integer_type long = Long
integer_type unsigned_long = UnsignedLong
integer_type other = Int

abbrev pub same_type : PlainType → PlainType → Bool
same_type void void = true
same_type char char = true
same_type unsigned_char unsigned_char = true
same_type int int = true
same_type unsigned_int unsigned_int = true
same_type long long = true
same_type unsigned_long unsigned_long = true
same_type (pointer_to a) (pointer_to b) = same_type a b
same_type (array_of a m) (array_of b n) = m == n && same_type a b
same_type (structure i) (structure j) = i == j
same_type a b = false

abbrev pub is_complete_struct : Option Struct → Bool
is_complete_struct (Some s) = s.complete
is_complete_struct None = false

abbrev pub is_complete : List Struct → PlainType → Bool
is_complete structs void = false
is_complete structs (structure number) = is_complete_struct (slice_get structs number)
is_complete structs other = true

abbrev pub is_struct : PlainType → Bool
is_struct (structure number) = true
is_struct other = false

-- A pointer to an array comes from `&` alone. It may be compared and dereferenced, and nothing else.
abbrev pub is_pointer_to_array : PlainType → Bool
is_pointer_to_array (pointer_to (array_of t count)) = true
is_pointer_to_array other = false

abbrev pub is_pointer : PlainType → Bool
is_pointer (pointer_to t) = not (is_pointer_to_array (pointer_to t))
is_pointer other = false

abbrev pub is_scalar_type : PlainType → Bool
is_scalar_type t = is_integer t || is_pointer t

-- a pointer that may be moved: to a complete type that is no array
abbrev pub is_movable : List Struct → PlainType → Bool
is_movable structs (pointer_to (array_of t count)) = false
is_movable structs (pointer_to t) = is_complete structs t
is_movable structs other = false

-- What an expression designates.
pub data Designation : Type 0 where
  value : PlainExpression → Designation
  -- an object or a part of one, and whether it may be assigned to and pointed at
  object : PlainPlace → Bool → Designation

pub record Operand : Type 0 where
  pub ty : PlainType
  pub designates : Designation
  -- it is the null constant: a number of value 0, perhaps in parentheses
  pub is_null : Bool
  -- where it is refused if its value is needed and its type isn't complete
  pub stands_at : PlainToken

-- an expression by its value
pub record Typed : Type 0 where
  pub ty : PlainType
  pub core : PlainExpression
  pub is_null : Bool

abbrev pub typed : PlainType → PlainExpression → Typed
typed t core = record { ty = t; core = core; is_null = false }

abbrev pub of_value : PlainToken → PlainType → PlainExpression → Operand
of_value token t core = record { ty = t; designates = value core; is_null = false; stands_at = token }

abbrev pub of_object : PlainToken → PlainType → PlainPlace → Bool → Operand
of_object token t place free = record { ty = t; designates = object place free; is_null = false; stands_at = token }

-- The value of what an expression designates: that of an array is a pointer to its first element (6.3.2.1). What a pointer to `void` points
-- to is read as well, though nothing can stand there.
abbrev pub loaded_from : List Struct → Operand → PlainType → Designation → Checked Typed
loaded_from structs operand t (value core) = give (record { ty = t; core = core; is_null = operand.is_null })
loaded_from structs operand (array_of element count) (object place free) = give (typed (pointer_to element) (first_element place))
loaded_from structs operand void (object place free) = give (typed void (read place))
loaded_from structs operand t (object place free) =
    if is_complete structs t then give (typed t (read place)) else refused Incomplete operand.stands_at

abbrev pub loaded : Scope → Operand → Checked Typed
loaded scope operand = loaded_from scope.structs operand operand.ty operand.designates

-- a number in another type; nothing is written out where the types are the same
abbrev pub number_in_type : PlainType → Typed → PlainExpression
number_in_type t x = if same_type t x.ty then x.core else convert (integer_type t) x.core

-- A value as one of another type, where it may be assigned, passed or returned as one (6.5.16.1).
abbrev pub fits_into : PlainType → Typed → Option PlainExpression
fits_into t x =
    if is_integer t && is_integer x.ty then Some (number_in_type t x)
    else if is_pointer t && x.is_null then Some null_constant
    else if (is_pointer t || is_struct t) && same_type t x.ty then Some x.core
    else None
