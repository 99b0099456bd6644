-- The plain form of each kind of type.
use Rattle.std.proofs.Common.{◌≡◌, ℕ, sym, ap, ◌∙◌}
use Rattle.std.specs.declared.alloc.Global.{Global}
use Rattle.std.specs.Prelude.{Box}
use Rattle.c_types.specs.declared.types.CType.{CType, Void, Char, UChar, Int, UInt, Long, ULong, Pointer, Array, Struct}
use Rattle.c_types.specs.declared.types.CType.TheVariants.{rolls-Void, rolls-Char, rolls-UChar, rolls-Int, rolls-UInt, rolls-Long, rolls-ULong, rolls-Pointer, rolls-Array, rolls-Struct}
use Rattle.c_types.specs.declared.types.CType.TheFolds.{fold-roll-CType}
use Rattle.c_types.specs.declared.types.CType.TheOpen as level
use Rattle.c_types.specs.Types.{PlainType, void, char, unsigned_char, int, unsigned_int, long, unsigned_long, pointer_to, array_of, structure, one_level, plain_type}

pub plain_type-Void : plain_type Void ≡ void
unfolding plain_type
plain_type-Void = ap plain_type (sym rolls-Void) ∙ fold-roll-CType PlainType one_level level.Void

pub plain_type-Char : plain_type Char ≡ char
unfolding plain_type
plain_type-Char = ap plain_type (sym rolls-Char) ∙ fold-roll-CType PlainType one_level level.Char

pub plain_type-UChar : plain_type UChar ≡ unsigned_char
unfolding plain_type
plain_type-UChar = ap plain_type (sym rolls-UChar) ∙ fold-roll-CType PlainType one_level level.UChar

pub plain_type-Int : plain_type Int ≡ int
unfolding plain_type
plain_type-Int = ap plain_type (sym rolls-Int) ∙ fold-roll-CType PlainType one_level level.Int

pub plain_type-UInt : plain_type UInt ≡ unsigned_int
unfolding plain_type
plain_type-UInt = ap plain_type (sym rolls-UInt) ∙ fold-roll-CType PlainType one_level level.UInt

pub plain_type-Long : plain_type Long ≡ long
unfolding plain_type
plain_type-Long = ap plain_type (sym rolls-Long) ∙ fold-roll-CType PlainType one_level level.Long

pub plain_type-ULong : plain_type ULong ≡ unsigned_long
unfolding plain_type
plain_type-ULong = ap plain_type (sym rolls-ULong) ∙ fold-roll-CType PlainType one_level level.ULong

pub plain_type-Pointer : (target : Box CType Global) → plain_type (Pointer target) ≡ pointer_to (plain_type target.value)
unfolding plain_type
plain_type-Pointer target = ap plain_type (sym (rolls-Pointer target)) ∙ fold-roll-CType PlainType one_level (level.Pointer target)

pub plain_type-Array : (element : Box CType Global) (count : ℕ) → plain_type (Array element count) ≡ array_of (plain_type element.value) count
unfolding plain_type
plain_type-Array element count = ap plain_type (sym (rolls-Array element count)) ∙ fold-roll-CType PlainType one_level (level.Array element count)

pub plain_type-Struct : (number : ℕ) → plain_type (Struct number) ≡ structure number
unfolding plain_type
plain_type-Struct number = ap plain_type (sym (rolls-Struct number)) ∙ fold-roll-CType PlainType one_level (level.Struct number)

-- the plain form of each kind of type
pub ruleset type_kinds = (plain_type-Void, plain_type-Char, plain_type-UChar, plain_type-Int, plain_type-UInt, plain_type-Long, plain_type-ULong, plain_type-Pointer, plain_type-Array, plain_type-Struct)
