-- Cubes, bit by bit.
use Rattle.std.proofs.Common.{◌≡◌, ◌≢◌, ℕ, zero, suc, ◌+◌, ◌%◌, ◌^◌, ◌<◌, true, not, eqb, IsTrue, refl, sym, ap, ◌∙◌, arith, inl, inr}
use Rattle.std.proofs.lemmas.Bool.Decides.{nat_tests}
use Rattle.std.proofs.lemmas.Bool.{cases_lt, cases_eq, false≢true, eqb-true}
use Rattle.std.proofs.lemmas.Nat.Bits.{bit_at_and, bit_at_xor, bit_at-lt, bit_at-zero, bit_at-trailing_zeros, same_from_bits_below}
use Rattle.std.proofs.lemmas.Nat.{and_le_r}
use Rattle.std.proofs.Math.Nat.{pos_of_ne-zero}
use Rattle.std.specs.Prelude.{bit_xor}
use Rattle.std.specs.Int.{bit_at, trailing_zeros, w128}
use lib.Bits.{bit_and}
use Rattle.cond_formula.specs.Features.{bits_of}
use Rattle.cond_formula.specs.FeatureBits.{has_bit-below, has-past}
use Rattle.cond_formula.specs.Cubes.{has_bit, Agrees, Clash}

bits_same : (a b : ℕ) → a < 2 → b < 2 → eqb a 1 ≡ eqb b 1 → a ≡ b
bits_same a b left right same = grind (arith, nat_tests)

bits_apart : (a b : ℕ) → (a + b) % 2 ≡ 1 → eqb a 1 ≡ eqb b 1 → a < 2 → b < 2 → ⊥
bits_apart a b odd same left right = let e = bits_same a b left right same in omega arith

pub agrees_from_bits : (bits mask value : ℕ) → bit_and bits mask ≡ value → Agrees mask value (bits_of 128 bits)
agrees_from_bits bits mask value is = record {
  on_each = λ feature assigned. elim (cases_lt feature 128) [
    | inl within ↦
        let in_mask : bit_at mask feature ≡ 1 = eqb-true (bit_at mask feature) 1 (sym (has_bit-below mask feature within) ∙ assigned) in
        let same : bit_at bits feature ≡ bit_at value feature = omega (arith, ap (λ n. bit_at n feature) is, bit_at_and bits mask feature, bit_at-lt bits feature) in
        has_bit-below bits feature within ∙ ap (λ (bit : ℕ). eqb bit 1) same ∙ sym (has_bit-below value feature within)
    | inr past ↦ has-past (bits_of 128 bits) feature past ∙ sym (has-past (bits_of 128 value) feature past)
  ];
}

pub bits_from_agrees : (bits mask value : ℕ) → mask < 2 ^ 128 → value < 2 ^ 128 → bit_and value mask ≡ value → Agrees mask value (bits_of 128 bits) → bit_and bits mask ≡ value
bits_from_agrees bits mask value m v inside agrees =
    same_from_bits_below 128 (bit_and bits mask) value (omega (arith, and_le_r bits mask)) v (λ i within.
    let in_value = ap (λ n. bit_at n i) inside in
    elim (cases_eq (bit_at mask i) 1) [
      | inl one ↦
          let assigned : has_bit mask i ≡ true = has_bit-below mask i within ∙ ap (λ (bit : ℕ). eqb bit 1) one in
          let same = sym (has_bit-below bits i within) ∙ agrees.on_each i assigned ∙ has_bit-below value i within in
          let equal = bits_same (bit_at bits i) (bit_at value i) (bit_at-lt bits i) (bit_at-lt value i) same in
          omega (arith, bit_at_and bits mask i, bit_at-lt bits i)
      | inr other ↦
          omega (arith, bit_at_and bits mask i, bit_at_and value mask i, bit_at-lt mask i, other)
    ])

pub clash_from_bits : (mask value other_mask other_value : ℕ) → other_mask < 2 ^ 128 → bit_and (bit_and (bit_xor value other_value) mask) other_mask ≢ 0 → Clash mask value other_mask other_value
clash_from_bits mask value other_mask other_value m some =
    let differ = bit_xor value other_value in
    let both = bit_and (bit_and differ mask) other_mask in
    let found = bit_at-trailing_zeros w128 both (pos_of_ne-zero some) (omega (arith, and_le_r (bit_and differ mask) other_mask)) in
    let i = trailing_zeros w128 both in
    let one : bit_at both i ≡ 1 = found.1 in
    let outer = bit_at_and (bit_and differ mask) other_mask i in
    let inner = bit_at_and differ mask i in
    let in_mask : bit_at mask i ≡ 1 = omega (arith, bit_at-lt mask i) in
    let in_other : bit_at other_mask i ≡ 1 = omega (arith, bit_at-lt other_mask i) in
    let in_differ : bit_at differ i ≡ 1 = omega (arith, bit_at-lt differ i) in
    record {
      feature = i;
      assigned = has_bit-below mask i found.0 ∙ ap (λ (bit : ℕ). eqb bit 1) in_mask;
      also_assigned = has_bit-below other_mask i found.0 ∙ ap (λ (bit : ℕ). eqb bit 1) in_other;
      different = λ same.
          bits_apart (bit_at value i) (bit_at other_value i) (sym (bit_at_xor value other_value i) ∙ in_differ) (sym (has_bit-below value i found.0) ∙ same ∙ has_bit-below other_value i found.0) (bit_at-lt value i) (bit_at-lt other_value i);
    }

pub bits_from_clash : (mask value other_mask other_value : ℕ) → Clash mask value other_mask other_value → bit_and (bit_and (bit_xor value other_value) mask) other_mask ≢ 0
bits_from_clash mask value other_mask other_value clash none =
    let i = clash.feature in
    elim (cases_lt i 128) [
      | inl within ↦
          let differ = bit_xor value other_value in
          let in_mask : bit_at mask i ≡ 1 = eqb-true (bit_at mask i) 1 (sym (has_bit-below mask i within) ∙ clash.assigned) in
          let in_other : bit_at other_mask i ≡ 1 = eqb-true (bit_at other_mask i) 1 (sym (has_bit-below other_mask i within) ∙ clash.also_assigned) in
          let zero_bit = ap (λ n. bit_at n i) none ∙ bit_at-zero i in
          let same : bit_at value i ≡ bit_at other_value i =
          omega (arith, bit_at_and (bit_and differ mask) other_mask i, bit_at_and differ mask i, bit_at_xor value other_value i, bit_at-lt value i, bit_at-lt other_value i) in
          clash.different (has_bit-below value i within ∙ ap (λ (bit : ℕ). eqb bit 1) same ∙ sym (has_bit-below other_value i within))
      | inr past ↦ false≢true (sym (has-past (bits_of 128 mask) i past) ∙ clash.assigned)
    ]

pub some_from_test : (n : ℕ) → IsTrue (not (eqb n 0)) → n ≢ 0
some_from_test zero holds = λ _. false≢true holds
some_from_test (suc n) holds = λ none. absurd (omega arith)

pub test_from_some : (n : ℕ) → n ≢ 0 → IsTrue (not (eqb n 0))
test_from_some zero some = absurd (some refl)
test_from_some (suc n) some = grind (arith, nat_tests)
