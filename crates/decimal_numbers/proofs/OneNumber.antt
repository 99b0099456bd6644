-- A text is one number at most, which is what it is parsed to.
use Rattle.std.proofs.Common.{◌≡◌, ℕ, ◌<◌, ◌^◌, List, Option, Some, None, Result, Ok, Err, MatchOption, sym, ◌∙◌, subst, arith}
use Rattle.std.proofs.lemmas.Fmt.{parse-decimal, decimal_injective}
use Rattle.std.specs.Str.Parse.{ParsesUnsigned}
use Rattle.decimal_numbers.specs.Numbers.{IsNumber}

pub one_number : (largest : ℕ) (text : List ℕ) (m n : ℕ) → largest < 2 ^ 64 → IsNumber largest text m → IsNumber largest text n → m ≡ n
one_number largest text m n low h k = decimal_injective m n (omega (arith, low, h.1)) (omega (arith, low, k.1)) (sym h.0 ∙ k.0)

module _ {E : Type 0} (largest : ℕ) (low : largest < 2 ^ 32) (text : List ℕ) where
  parsed : (r : Result ℕ E) (n : ℕ) → ParsesUnsigned 32 10 text r → IsNumber largest text n → r ≡ Ok n
  parsed r n h b = parse-decimal 32 n text r (omega (arith, low, b.1)) (omega (arith, low, b.1)) b.0 h

  pub no_number : (e : E) → ParsesUnsigned 32 10 text (Err e) → (n : ℕ) → IsNumber largest text n → ⊥
  no_number e h n b = let k : ◌≡◌ {A = Result ℕ E} (Err e) (Ok n) = parsed (Err e) n h b in absurd cc

  pub number_or_none : (r : Result ℕ E) (number : ℕ) (found : Option ℕ) → r ≡ Ok number → ParsesUnsigned 32 10 text r → MatchOption found (IsNumber largest text number → ⊥) (IsNumber largest text) → MatchOption found ((n : ℕ) → IsNumber largest text n → ⊥) (IsNumber largest text)
  number_or_none r number None is h k = λ n b.
      let e : ◌≡◌ {A = Result ℕ E} (Ok number) (Ok n) = sym is ∙ parsed r n h b in
      let same : n ≡ number = cc in
      k (subst (IsNumber largest text) same b)
  number_or_none r number (Some n) is h k = k
