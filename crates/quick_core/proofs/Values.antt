-- The numbers of the quick form are values of `int`: the arithmetic, conditions and bytes of both meanings are the same there.
use Rattle.std.proofs.Common.{◌≡◌, zero, suc, ℤ, pos, negsuc, ◌+ℤ◌, ◌-ℤ◌, Bool, true, false, not, ◌&&◌, refl, sym, ◌∙◌, ap, subst, cond, Some, None, IsTrue}
use Rattle.std.proofs.Math.Dec.{eqb-suc-zero}
use Rattle.std.proofs.lemmas.Float.{T_from_true}
use Rattle.std.specs.Int.Signed.{le_z, le_z_yes}
use Rattle.c_types.specs.declared.arithmetic.Arith.TheVariants.{Value, Undefined}
use Rattle.c_types.specs.declared.arithmetic.BinaryOp.TheVariants.{Add, Sub}
use Rattle.c_types.specs.Types.{int, unsigned_char}
use Rattle.c_types.specs.Integers.{IsValue, converted}
use Rattle.c_types.specs.Arithmetic.{binary_value, bits_of}
use Rattle.c_types.proofs.ConversionLaws.{converted-value}
use Rattle.core_meaning.specs.Memory.{defined_value}
use Rattle.core_meaning.specs.Values.{number, is_true}
use Rattle.core_meaning.specs.Meaning.{computed}
use Rattle.quick_form.specs.Run as quick
use Rattle.quick_form.specs.Run.{is_int, int_or_none}

both_hold : (a b : Bool) → IsTrue (a && b) → IsTrue a × IsTrue b
both_hold true b h = (refl, h)
both_hold false b h = absurd cc

pub int_is_value : (z : ℤ) → IsTrue (is_int z) → IsValue int z
int_is_value z h =
    let parts = both_hold (le_z (negsuc 2147483647) z) (le_z z (pos 2147483647)) h in
    record {
      integer = refl;
      at_least = le_z_yes (T_from_true (le_z (negsuc 2147483647) z) parts.0);
      at_most = le_z_yes (T_from_true (le_z z (pos 2147483647)) parts.1);
    }

pub int_is_converted : (z : ℤ) → IsTrue (is_int z) → converted int z ≡ z
int_is_converted z h = converted-value int z (int_is_value z h)

in_range_or_none : (b : Bool) (z : ℤ) → defined_value (cond b (Value z) Undefined) ≡ cond b (Some z) None
in_range_or_none true z = refl
in_range_or_none false z = refl

-- a sum or a difference of two `int`s
abbrev pub joined : Bool → ℤ → ℤ → ℤ
joined subtracted x y = cond subtracted (x -ℤ y) (x +ℤ y)

pub computed_is : (subtracted : Bool) (x y : ℤ) → IsTrue (is_int x) → IsTrue (is_int y) → computed (cond subtracted Sub Add) int x y ≡ int_or_none (joined subtracted x y)
computed_is true x y h k =
    ap (λ a. defined_value (binary_value Sub int a (converted int y))) (int_is_converted x h)
    ∙ (ap (λ b. defined_value (binary_value Sub int x b)) (int_is_converted y k) ∙ in_range_or_none (is_int (x -ℤ y)) (x -ℤ y))
computed_is false x y h k =
    ap (λ a. defined_value (binary_value Add int a (converted int y))) (int_is_converted x h)
    ∙ (ap (λ b. defined_value (binary_value Add int x b)) (int_is_converted y k) ∙ in_range_or_none (is_int (x +ℤ y)) (x +ℤ y))

chosen_is_int : (b : Bool) (z v : ℤ) → is_int z ≡ b → cond b (Some z) None ≡ Some v → IsTrue (is_int v)
chosen_is_int true z v h e = let same : z ≡ v = cc in subst (λ w. IsTrue (is_int w)) same h
chosen_is_int false z v h e = absurd cc

pub int_or_none_is_int : (z v : ℤ) → int_or_none z ≡ Some v → IsTrue (is_int v)
int_or_none_is_int z v e = chosen_is_int (is_int z) z v refl e

pub condition_is : (z : ℤ) → is_true (number z) ≡ not (quick.is_zero z)
condition_is (pos zero) = refl
condition_is (pos (suc n)) = ap not (sym (eqb-suc-zero n))
condition_is (negsuc n) = refl

pub byte_is : (z : ℤ) → bits_of unsigned_char z ≡ quick.byte_of z
byte_is (pos n) = refl
byte_is (negsuc n) = refl
