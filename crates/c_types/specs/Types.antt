-- Types without pointers and room in memory (ISO/IEC 9899:2011, 6.2.5).
use Rattle.std.specs.Prelude.{ℕ}
use Rattle.c_types.specs.declared.types.CType.{CType}
use Rattle.c_types.specs.declared.types.CType.TheOpen.{CType-F, Void, Char, UChar, Int, UInt, Long, ULong, Pointer, Array, Struct}
use Rattle.c_types.specs.declared.types.CType.TheFolds.{fold-CType}

pub data PlainType : Type 0 where
  void : PlainType
  char : PlainType
  unsigned_char : PlainType
  int : PlainType
  unsigned_int : PlainType
  long : PlainType
  unsigned_long : PlainType
  pointer_to : PlainType → PlainType
  array_of : PlainType → ℕ → PlainType
  -- the struct with this number
  structure : ℕ → PlainType

-- a type's plain form, given that of the type that it is derived from
abbrev pub one_level : CType-F PlainType → PlainType
one_level Void = void
one_level Char = char
one_level UChar = unsigned_char
one_level Int = int
one_level UInt = unsigned_int
one_level Long = long
one_level ULong = unsigned_long
one_level (Pointer target) = pointer_to target.value
one_level (Array element count) = array_of element.value count
one_level (Struct number) = structure number

-- a type's plain form
unfoldable pub plain_type : CType → PlainType
plain_type = fold-CType PlainType one_level
