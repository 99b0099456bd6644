-- Types that are the same are equal.
use Rattle.std.proofs.Common.{◌≡◌, ℕ, Bool, true, false, refl, ap, arith}
use Rattle.std.specs.Prelude.{◌==◌, ◌&&◌}
use Rattle.std.proofs.lemmas.Bool.{false≢true}
use Rattle.c_types.specs.Types.{PlainType, void, char, unsigned_char, int, unsigned_int, long, unsigned_long, pointer_to, array_of, structure}
use Rattle.core_meaning.specs.Typing.{same_type}

equal_numbers : (m n : ℕ) → (m == n) ≡ true → m ≡ n
equal_numbers m n h = grind arith

left_of : (a b : Bool) → (a && b) ≡ true → a ≡ true
left_of true b h = refl
left_of false b h = h

right_of : (a b : Bool) → (a && b) ≡ true → b ≡ true
right_of true b h = h
right_of false b h = absurd (false≢true h)

pub same_is : (a b : PlainType) → same_type a b ≡ true → a ≡ b
same_is void void h = refl
same_is void char h = absurd (false≢true h)
same_is void unsigned_char h = absurd (false≢true h)
same_is void int h = absurd (false≢true h)
same_is void unsigned_int h = absurd (false≢true h)
same_is void long h = absurd (false≢true h)
same_is void unsigned_long h = absurd (false≢true h)
same_is void (pointer_to b) h = absurd (false≢true h)
same_is void (array_of b n) h = absurd (false≢true h)
same_is void (structure j) h = absurd (false≢true h)
same_is char void h = absurd (false≢true h)
same_is char char h = refl
same_is char unsigned_char h = absurd (false≢true h)
same_is char int h = absurd (false≢true h)
same_is char unsigned_int h = absurd (false≢true h)
same_is char long h = absurd (false≢true h)
same_is char unsigned_long h = absurd (false≢true h)
same_is char (pointer_to b) h = absurd (false≢true h)
same_is char (array_of b n) h = absurd (false≢true h)
same_is char (structure j) h = absurd (false≢true h)
same_is unsigned_char void h = absurd (false≢true h)
same_is unsigned_char char h = absurd (false≢true h)
same_is unsigned_char unsigned_char h = refl
same_is unsigned_char int h = absurd (false≢true h)
same_is unsigned_char unsigned_int h = absurd (false≢true h)
same_is unsigned_char long h = absurd (false≢true h)
same_is unsigned_char unsigned_long h = absurd (false≢true h)
same_is unsigned_char (pointer_to b) h = absurd (false≢true h)
same_is unsigned_char (array_of b n) h = absurd (false≢true h)
same_is unsigned_char (structure j) h = absurd (false≢true h)
same_is int void h = absurd (false≢true h)
same_is int char h = absurd (false≢true h)
same_is int unsigned_char h = absurd (false≢true h)
same_is int int h = refl
same_is int unsigned_int h = absurd (false≢true h)
same_is int long h = absurd (false≢true h)
same_is int unsigned_long h = absurd (false≢true h)
same_is int (pointer_to b) h = absurd (false≢true h)
same_is int (array_of b n) h = absurd (false≢true h)
same_is int (structure j) h = absurd (false≢true h)
same_is unsigned_int void h = absurd (false≢true h)
same_is unsigned_int char h = absurd (false≢true h)
same_is unsigned_int unsigned_char h = absurd (false≢true h)
same_is unsigned_int int h = absurd (false≢true h)
same_is unsigned_int unsigned_int h = refl
same_is unsigned_int long h = absurd (false≢true h)
same_is unsigned_int unsigned_long h = absurd (false≢true h)
same_is unsigned_int (pointer_to b) h = absurd (false≢true h)
same_is unsigned_int (array_of b n) h = absurd (false≢true h)
same_is unsigned_int (structure j) h = absurd (false≢true h)
same_is long void h = absurd (false≢true h)
same_is long char h = absurd (false≢true h)
same_is long unsigned_char h = absurd (false≢true h)
same_is long int h = absurd (false≢true h)
same_is long unsigned_int h = absurd (false≢true h)
same_is long long h = refl
same_is long unsigned_long h = absurd (false≢true h)
same_is long (pointer_to b) h = absurd (false≢true h)
same_is long (array_of b n) h = absurd (false≢true h)
same_is long (structure j) h = absurd (false≢true h)
same_is unsigned_long void h = absurd (false≢true h)
same_is unsigned_long char h = absurd (false≢true h)
same_is unsigned_long unsigned_char h = absurd (false≢true h)
same_is unsigned_long int h = absurd (false≢true h)
same_is unsigned_long unsigned_int h = absurd (false≢true h)
same_is unsigned_long long h = absurd (false≢true h)
same_is unsigned_long unsigned_long h = refl
same_is unsigned_long (pointer_to b) h = absurd (false≢true h)
same_is unsigned_long (array_of b n) h = absurd (false≢true h)
same_is unsigned_long (structure j) h = absurd (false≢true h)
same_is (pointer_to a) void h = absurd (false≢true h)
same_is (pointer_to a) char h = absurd (false≢true h)
same_is (pointer_to a) unsigned_char h = absurd (false≢true h)
same_is (pointer_to a) int h = absurd (false≢true h)
same_is (pointer_to a) unsigned_int h = absurd (false≢true h)
same_is (pointer_to a) long h = absurd (false≢true h)
same_is (pointer_to a) unsigned_long h = absurd (false≢true h)
same_is (pointer_to a) (pointer_to b) h = ap pointer_to (same_is a b h)
same_is (pointer_to a) (array_of b n) h = absurd (false≢true h)
same_is (pointer_to a) (structure j) h = absurd (false≢true h)
same_is (array_of a m) void h = absurd (false≢true h)
same_is (array_of a m) char h = absurd (false≢true h)
same_is (array_of a m) unsigned_char h = absurd (false≢true h)
same_is (array_of a m) int h = absurd (false≢true h)
same_is (array_of a m) unsigned_int h = absurd (false≢true h)
same_is (array_of a m) long h = absurd (false≢true h)
same_is (array_of a m) unsigned_long h = absurd (false≢true h)
same_is (array_of a m) (pointer_to b) h = absurd (false≢true h)
same_is (array_of a m) (array_of b n) h = rw (same_is a b (right_of (m == n) (same_type a b) h)) (rw (equal_numbers m n (left_of (m == n) (same_type a b) h)) refl)
same_is (array_of a m) (structure j) h = absurd (false≢true h)
same_is (structure i) void h = absurd (false≢true h)
same_is (structure i) char h = absurd (false≢true h)
same_is (structure i) unsigned_char h = absurd (false≢true h)
same_is (structure i) int h = absurd (false≢true h)
same_is (structure i) unsigned_int h = absurd (false≢true h)
same_is (structure i) long h = absurd (false≢true h)
same_is (structure i) unsigned_long h = absurd (false≢true h)
same_is (structure i) (pointer_to b) h = absurd (false≢true h)
same_is (structure i) (array_of b n) h = absurd (false≢true h)
same_is (structure i) (structure j) h = ap structure (equal_numbers i j h)
