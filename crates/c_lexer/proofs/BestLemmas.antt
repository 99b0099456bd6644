-- The longest piece, class by class.
use Rattle.std.proofs.Common.{◌≡◌, ℕ, ◌<◌, ◌≤◌, ◌==◌, max, Bool, true, cond, ◌||◌, List, length, take, sym, subst, ◌∙◌, ◌⊎◌, ⊎_elim, arith, Option, Some, None}
use Rattle.std.proofs.lemmas.Bool.{cond-true, cond-false, or_from, or_left, or_right, eq-eqb, ne_eqb, cases_lt}
use Rattle.std.proofs.lemmas.List.{length-take-le}
use Rattle.c_text.specs.declared.token.BadKind.TheVariants.{BadByte}
use Rattle.c_text.specs.declared.token.TokenKind.TheVariants.{Bad}
use Rattle.c_text.specs.Pieces.{PieceKind, token}
use Rattle.c_lexer.specs.declared.classes.Best.{Best}
use Rattle.c_lexer.specs.declared.classes.Class.{Class}
use Rattle.c_lexer.specs.declared.classes.Class.TheVariants as class
use Rattle.c_lexer.specs.Longest.{IsLongestOf}
use Rattle.c_lexer.specs.Classes.{kind_in}
use Rattle.c_lexer.specs.Best.{IsBest}

-- what passes one of two tests
module _ (one other : List ℕ → Bool) (text : List ℕ) (n m : ℕ) (a : IsLongestOf one text n) (b : IsLongestOf other text m) where
  either-passes : 0 < max n m → (n < m) ⊎ (m ≤ n) → (one (take (max n m) text) || other (take (max n m) text)) ≡ true
  either-passes some = ⊎_elim
      (λ less. let is : m ≡ max n m = omega (arith, less) in
      or_right (one (take (max n m) text)) (other (take (max n m) text))
      (subst (λ k. other (take k text) ≡ true) is (b.passes (omega (arith, less)))))
      (λ more. let is : n ≡ max n m = omega (arith, more) in
      or_left (one (take (max n m) text)) (other (take (max n m) text))
      (subst (λ k. one (take k text) ≡ true) is (a.passes (omega (arith, some, is)))))

  either-max : IsLongestOf (λ w. one w || other w) text (max n m)
  either-max = record {
    within = omega (arith, a.within, b.within);
    passes = λ some. either-passes some (cases_lt n m);
    fails = λ k above within. or_from (one (take k text)) (other (take k text)) (a.fails k (omega (arith, above)) within) (b.fails k (omega (arith, above)) within);
  }

  pub either : (k : ℕ) → k ≡ max n m → IsLongestOf (λ w. one w || other w) text k
  either k e = subst (λ j. IsLongestOf (λ w. one w || other w) text j) (sym e) either-max

-- a class before the others
abbrev pub classed : (List ℕ → Bool) → Class → (List ℕ → Option PieceKind) → List ℕ → Option PieceKind
classed test c others w = cond (test w) (Some (kind_in c w)) (others w)

module _ (test : List ℕ → Bool) (c : Class) (others : List ℕ → Option PieceKind) (text : List ℕ) (best : Best) (n : ℕ) (b : IsBest others text best) (t : IsLongestOf test text n) where
  longer-best : best.length ≤ n → (found : Best) → found.length ≡ n → found.class ≡ c → IsBest (classed test c others) text found
  longer-best le found is of =
      let some : 0 < n = omega (arith, b.some, le) in
      let w = take n text in
      record {
        some = omega (arith, some, is);
        within = omega (arith, t.within, is);
        is_piece = subst (λ k. classed test c others (take k text) ≡ Some (kind_in found.class (take k text))) (sym is)
            (subst (λ d. classed test c others w ≡ Some (kind_in d w)) (sym of) (cond-true (test w) (Some (kind_in c w)) (others w) (t.passes some)));
        longest = λ m above within.
            cond-false (test (take m text)) (Some (kind_in c (take m text))) (others (take m text)) (t.fails m (omega (arith, above, is)) within)
            ∙ b.longest m (omega (arith, above, is, le)) within;
      }

  shorter-best : n < best.length → (found : Best) → found.length ≡ best.length → found.class ≡ best.class → IsBest (classed test c others) text found
  shorter-best less found is of =
      let w = take best.length text in
      record {
        some = omega (arith, b.some, is);
        within = omega (arith, b.within, is);
        is_piece = subst (λ k. classed test c others (take k text) ≡ Some (kind_in found.class (take k text))) (sym is)
            (subst (λ d. classed test c others w ≡ Some (kind_in d w)) (sym of)
            (cond-false (test w) (Some (kind_in c w)) (others w) (t.fails best.length less b.within) ∙ b.is_piece));
        longest = λ m above within.
            cond-false (test (take m text)) (Some (kind_in c (take m text))) (others (take m text)) (t.fails m (omega (arith, above, is, less)) within)
            ∙ b.longest m (omega (arith, above, is)) within;
      }

  pub best-step : (found : Best) → (best.length ≤ n → (found.length ≡ n) × (found.class ≡ c)) → (n < best.length → (found.length ≡ best.length) × (found.class ≡ best.class)) → IsBest (classed test c others) text found
  best-step found longer shorter =
      ⊎_elim (λ less. shorter-best less found (shorter less).0 (shorter less).1) (λ le. longer-best le found (longer le).0 (longer le).1)
      (cases_lt n best.length)

-- one byte alone
abbrev pub lone : List ℕ → Option PieceKind
lone w = cond (length w == 1) (Some (token (Bad BadByte))) None

pub best-lone : (text : List ℕ) (best : Best) → 0 < length text → best.length ≡ 1 → best.class ≡ class.Byte → IsBest lone text best
best-lone text best some is of =
    let one = length-take-le 1 text (omega (arith, some)) in
    record {
      some = omega (arith, is);
      within = omega (arith, is, some);
      is_piece = subst (λ k. lone (take k text) ≡ Some (kind_in best.class (take k text))) (sym is)
          (subst (λ d. lone (take 1 text) ≡ Some (kind_in d (take 1 text))) (sym of)
          (cond-true (length (take 1 text) == 1) (Some (token (Bad BadByte))) None (eq-eqb (length (take 1 text)) 1 one)));
      longest = λ m above within.
          let same = length-take-le m text within in
          cond-false (length (take m text) == 1) (Some (token (Bad BadByte))) None (ne_eqb (length (take m text)) 1 (λ h. absurd (omega (arith, same, h, above, is))));
    }
