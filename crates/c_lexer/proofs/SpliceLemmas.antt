-- Splices, byte by byte.
use Rattle.std.proofs.Common.{◌≡◌, ℕ, zero, suc, ◌+◌, ◌-◌, ◌<◌, List, [], ◌∷◌, ◌++◌, length, get_or, drop, map, refl, sym, ap, subst, ◌∙◌, append_assoc, arith}
use Rattle.std.proofs.lemmas.List.{drop_more}
use Rattle.c_text.specs.Splices.{Placed, placed, splice_length, unless_splice, spliced_from}

-- how many bytes go at the front
pub record Goes (more : ℕ) (text : List ℕ) (gone : ℕ) : Type 0 where
  pub splice : more ≡ 0 → gone ≡ splice_length text
  pub rest : 0 < more → gone ≡ more

keeps_at : (more at b : ℕ) (rest : List ℕ) (gone : ℕ) → Goes more (b ∷ rest) gone → gone ≡ 0 → spliced_from more at (b ∷ rest) ≡ placed b at ∷ spliced_from 0 (suc at) rest
keeps_at zero at b rest gone h none =
    ap (λ n. unless_splice n (placed b at) (λ m. spliced_from m (suc at) rest)) (sym (h.splice refl) ∙ none)
keeps_at (suc more) at b rest gone h none = let e = h.rest (omega arith) in absurd (omega (arith, e, none))

goes_at : (more at b : ℕ) (rest : List ℕ) (gone k : ℕ) → Goes more (b ∷ rest) gone → gone ≡ suc k → spliced_from more at (b ∷ rest) ≡ spliced_from k (suc at) rest
goes_at zero at b rest gone k h some =
    ap (λ n. unless_splice n (placed b at) (λ m. spliced_from m (suc at) rest)) (sym (h.splice refl) ∙ some)
goes_at (suc more) at b rest gone k h some =
    let e = h.rest (omega arith) in
    let same : more ≡ k = omega (arith, e, some) in ap (λ m. spliced_from m (suc at) rest) same

-- the loop's step, for the bytes and for their places
module _ (f : Placed → ℕ) (out text whole : List ℕ) (more i gone : ℕ) (inside : i < length text) (h : Goes more (drop i text) gone) (so_far : out ++ map f (spliced_from more i (drop i text)) ≡ whole) where
  at_byte : Goes more (get_or text i 0 ∷ drop (i + 1) text) gone
  at_byte = subst (λ t. Goes more t gone) (drop_more text i 0 inside) h

  pub keep-step : gone ≡ 0 → (out ++ f (placed (get_or text i 0) i) ∷ []) ++ map f (spliced_from 0 (i + 1) (drop (i + 1) text)) ≡ whole
  keep-step none =
      let b = get_or text i 0 in
      let rest = drop (i + 1) text in
      let next : suc i ≡ i + 1 = omega arith in
      let front = ap (spliced_from more i) (drop_more text i 0 inside) ∙ keeps_at more i b rest gone at_byte none
      ∙ ap (λ n. placed b i ∷ spliced_from 0 n rest) next in
      append_assoc out (f (placed b i) ∷ []) (map f (spliced_from 0 (i + 1) rest)) ∙ ap (λ ps. out ++ map f ps) (sym front) ∙ so_far

  pub go-step : 0 < gone → out ++ map f (spliced_from (gone - 1) (i + 1) (drop (i + 1) text)) ≡ whole
  go-step some =
      let rest = drop (i + 1) text in
      let next : suc i ≡ i + 1 = omega arith in
      let one : gone ≡ suc (gone - 1) = omega (arith, some) in
      let front = ap (spliced_from more i) (drop_more text i 0 inside) ∙ goes_at more i (get_or text i 0) rest gone (gone - 1) at_byte one
      ∙ ap (λ n. spliced_from (gone - 1) n rest) next in
      ap (λ ps. out ++ map f ps) (sym front) ∙ so_far

  -- the same, for what the loop holds after it
  pub keep-loop : gone ≡ 0 → (out' : List ℕ) (more' : ℕ) → out' ≡ out ++ f (placed (get_or text i 0) i) ∷ [] → more' ≡ 0 → out' ++ map f (spliced_from more' (i + 1) (drop (i + 1) text)) ≡ whole
  keep-loop none out' more' e z =
      ap (λ o. o ++ map f (spliced_from more' (i + 1) (drop (i + 1) text))) e
      ∙ ap (λ m. (out ++ f (placed (get_or text i 0) i) ∷ []) ++ map f (spliced_from m (i + 1) (drop (i + 1) text))) z
      ∙ keep-step none

  pub go-loop : 0 < gone → (out' : List ℕ) (more' : ℕ) → out' ≡ out → more' ≡ gone - 1 → out' ++ map f (spliced_from more' (i + 1) (drop (i + 1) text)) ≡ whole
  go-loop some out' more' e z =
      ap (λ o. o ++ map f (spliced_from more' (i + 1) (drop (i + 1) text))) e
      ∙ ap (λ m. out ++ map f (spliced_from m (i + 1) (drop (i + 1) text))) z
      ∙ go-step some
