-- The kinds of types by numbers, to compare them.
use Rattle.std.specs.Prelude.{ℕ, Bool, nat_lt}
use Rattle.c_types.specs.Types.{PlainType, void, char, unsigned_char, int, unsigned_int, long, unsigned_long, pointer_to, array_of, structure}

abbrev pub kind_number : PlainType → ℕ
kind_number void = 0
kind_number char = 1
kind_number unsigned_char = 2
kind_number int = 3
kind_number unsigned_int = 4
kind_number long = 5
kind_number unsigned_long = 6
kind_number (pointer_to t) = 7
kind_number (array_of t count) = 8
kind_number (structure number) = 9

-- a type that isn't derived from another, and no struct
abbrev pub is_basic : PlainType → Bool
is_basic t = nat_lt (kind_number t) 7
