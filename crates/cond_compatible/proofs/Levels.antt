-- What rows tell of structs, a depth after the other.
use Rattle.std.proofs.Common.{arith, ◌≡◌, ℕ, zero, suc, ◌+◌, ◌*◌, ◌<◌, ◌≤◌, Bool, true, false, List, length, ◌⊎◌, ⊎_elim, inl, inr, refl, sym, ap, ◌∙◌}
use Rattle.std.specs.Prelude.{◌↔◌, nat_lt, slice_get, IsTrue}
use Rattle.std.proofs.lemmas.Bool.Decides.{nat_tests}
use Rattle.c_types.specs.Types.{PlainType}
use Rattle.c_types.specs.Tags.{PlainTag}
use Rattle.c_types.specs.Compatible.{Compatible}
use Rattle.cond_compatible.specs.Depths.{types_agree, structs_agree, compared, alike_to}
use Rattle.cond_compatible.proofs.AgreeLaws.{left_true, alike_there, compatible_agree, agree_compatible}
use Rattle.cond_compatible.proofs.Totals.{count, count_most, count_same, none_counted}

-- ---- after as many depths as there are pairs nothing changes any more

same_if : (a b : Bool) → (a ≡ true → b ≡ true) → (b ≡ true → a ≡ true) → a ≡ b
same_if true b h k = sym (h refl)
same_if false true h k = k refl
same_if false false h k = refl

module _ (tags : List PlainTag) where
  abbrev alike : ℕ → ℕ → ℕ → Bool
  alike depth = alike_to tags depth

  abbrev many : ℕ
  many = length tags

  -- nothing changes any more at this depth
  abbrev pub IsStable : ℕ → Type 0
  IsStable depth = (i j : ℕ) → i < length tags → j < length tags → alike_to tags (suc depth) i j ≡ alike_to tags depth i j

  was_alike : (depth i j : ℕ) → alike (suc depth) i j ≡ true → alike depth i j ≡ true
  was_alike depth i j h = left_true (alike depth i j) (structs_agree (alike depth) (slice_get tags i) (slice_get tags j)) h

  stays_stable : (depth : ℕ) → ((i j : ℕ) → i < many → j < many → alike depth i j ≡ true → alike (suc depth) i j ≡ true) → IsStable (suc depth)
  stays_stable depth h i j low within = ap (λ f. compared f tags i j) (sym same)
    where
      same : alike depth ≡ alike (suc depth)
      same = λ k i j. same_if (alike depth i j) (alike (suc depth) i j)
          (λ e. let there = alike_there tags depth i j e in h i j there.0 there.1 e) (was_alike depth i j) k

  stable_or_few : (depth : ℕ) → (count (alike depth) many + depth ≤ many * many) ⊎ IsStable depth
  stable_or_few zero = let most = count_most (alike zero) many in inl (omega (arith, most))
  stable_or_few (suc depth) = ⊎_elim few (λ s. inr (stays_stable depth (λ i j low within e. s i j low within ∙ e))) (stable_or_few depth)
    where
      few : count (alike depth) many + depth ≤ many * many → (count (alike (suc depth)) many + suc depth ≤ many * many) ⊎ IsStable (suc depth)
      few h = by (nat_lt (count (alike (suc depth)) many) (count (alike depth) many)) refl
        where
          by : (b : Bool) → nat_lt (count (alike (suc depth)) many) (count (alike depth) many) ≡ b
              → (count (alike (suc depth)) many + suc depth ≤ many * many) ⊎ IsStable (suc depth)
          by true e =
              let less : count (alike (suc depth)) many < count (alike depth) many = grind (arith, nat_tests) in
              inl (omega (arith, h, less))
          by false e =
              let same : count (alike depth) many ≤ count (alike (suc depth)) many = grind (arith, nat_tests) in
              inr (stays_stable depth (λ i j low within. count_same (alike (suc depth)) (alike depth) many (was_alike depth) same i j low within))

  pub stable_at_last : (depth : ℕ) → depth ≡ many * many → IsStable depth
  stable_at_last depth last = ⊎_elim
      (λ few i j low within. same_if (alike (suc depth) i j) (alike depth i j) (was_alike depth i j)
      (λ e. absurd (none_counted (alike depth) many (omega (arith, few, last)) i j low within e)))
      (λ s. s)
      (stable_or_few depth)

-- ---- what rows tell

module _ (said : ℕ → ℕ → Bool) (tags : List PlainTag) (depth : ℕ) (exact : (i j : ℕ) → said i j ≡ alike_to tags depth i j) where
  same_said : said ≡ alike_to tags depth
  same_said = λ k i j. exact i j k

  pub next_depth : (i j : ℕ) → compared said tags i j ≡ alike_to tags (depth + 1) i j
  next_depth i j = ap (λ alike. compared alike tags i j) same_said ∙ ap (λ n. alike_to tags n i j) (sym add_one)
    where
      add_one : depth + 1 ≡ suc depth
      add_one = omega arith

  pub told_at : IsStable tags depth → (a b : PlainType) → IsTrue (types_agree said a b) ↔ Compatible tags tags a b
  told_at stable a b = (
    λ h. agree_compatible tags depth stable a b (ap (λ alike. types_agree alike a b) (sym same_said) ∙ h),
    λ h. ap (λ alike. types_agree alike a b) same_said ∙ compatible_agree tags a b h depth,
  )

  -- where comparing changes nothing
  pub told : ((i j : ℕ) → i < length tags → j < length tags → compared said tags i j ≡ said i j)
      → (a b : PlainType) → IsTrue (types_agree said a b) ↔ Compatible tags tags a b
  told same = told_at (λ i j low within. ap (λ alike. compared alike tags i j) (sym same_said) ∙ (same i j low within ∙ exact i j))
