-- Rows of conditions, to which one more is added at a time.
use Rattle.std.proofs.Common.{arith, ◌≡◌, ℕ, zero, suc, ◌+◌, ◌<◌, ◌≤◌, Bool, true, false, List, [], ◌∷◌, ◌++◌, length, refl, sym, ap, subst, ◌∙◌, ⊎_elim}
use Rattle.std.specs.Prelude.{◌&&◌, nat_lt, map, Some, None, option_map, is_some, slice_get, get_or}
use Rattle.std.proofs.lemmas.Bool.{cases_eq}
use Rattle.std.proofs.lemmas.Bool.Decides.{nat_tests}
use Rattle.std.proofs.lemmas.List.{get_or_append_left, get_or_push, get_or_past}
use Rattle.std.proofs.lemmas.Option.{slice_get-map, slice_get-get_or, slice_get_past}
use Rattle.cond_formula.specs.declared.formulas.Formula.{Formula, False}
use Rattle.cond_formula.specs.Conditions.{condition_of, value}
use Rattle.cond_formula.specs.ConditionLaws.{condition_of-False}
use Rattle.cond_compatible.specs.declared.alike.Row.{Row}
use Rattle.cond_compatible.specs.Depths.{structs_agree}
use Rattle.cond_compatible.specs.SeenTags.{said_at, row_of, said_in}
use Rattle.c_types.specs.Tags.{PlainTag}

module _ (on : ℕ → Bool) where
  pub said_pushed : (P : ℕ → Bool) (row : List Formula) (f : Formula) (n : ℕ) → length row ≡ n → ((k : ℕ) → k < n → said_at on row k ≡ P k)
      → value on (condition_of f) ≡ P n → (k : ℕ) → k < n + 1 → said_at on (row ++ f ∷ []) k ≡ P k
  said_pushed P row f n long before is k low = ⊎_elim
      (λ e. subst (λ m. said_at on (row ++ f ∷ []) m ≡ P m) (sym e) (ap (λ x. value on (condition_of x)) (get_or_push row f False n long) ∙ is))
      (λ other. let less : k < n = omega (arith, low, other) in
      ap (λ x. value on (condition_of x)) (get_or_append_left row (f ∷ []) False k (omega (arith, long, less))) ∙ before k less)
      (cases_eq k n)

  pub said_past : (row : List Formula) (k : ℕ) → length row ≤ k → said_at on row k ≡ false
  said_past row k h = ap (λ x. value on (condition_of x)) (get_or_past row k False h) ∙ ap (value on) condition_of-False

  pub said_all : (P : ℕ → Bool) (row : List Formula) (n : ℕ) → length row ≡ n → ((k : ℕ) → k < n → said_at on row k ≡ P k)
      → ((k : ℕ) → n ≤ k → P k ≡ false) → (k : ℕ) → said_at on row k ≡ P k
  said_all P row n long inside past k = by (nat_lt k n) refl
    where
      by : (b : Bool) → nat_lt k n ≡ b → said_at on row k ≡ P k
      by true e = inside k (grind (arith, nat_tests))
      by false e =
          let high : n ≤ k = grind (arith, nat_tests) in
          said_past row k (omega (arith, long, high)) ∙ sym (past k high)

  pub no_rows : (rows : List Row) (i j : ℕ) → length rows ≤ i → said_in on rows i j ≡ false
  no_rows rows i j h = ap (λ o. said_at on (row_of o) j) (slice_get_past rows i h) ∙ said_past [] j (omega arith)

  row_pushed : (rows : List Row) (row : Row) (n : ℕ) → length rows ≡ n → slice_get (rows ++ row ∷ []) n ≡ Some row
  row_pushed [] row zero h = refl
  row_pushed [] row (suc n) h = absurd (omega (arith, h))
  row_pushed (x ∷ rows) row zero h = absurd (omega (arith, h))
  row_pushed (x ∷ rows) row (suc n) h = row_pushed rows row n (omega (arith, h))

  row_kept : (rows : List Row) (row : Row) (i : ℕ) → i < length rows → slice_get (rows ++ row ∷ []) i ≡ slice_get rows i
  row_kept [] row i h = absurd (omega (arith, h))
  row_kept (x ∷ rows) row zero h = refl
  row_kept (x ∷ rows) row (suc i) h = row_kept rows row i (omega (arith, h))

  pub rows_pushed : (P : ℕ → ℕ → Bool) (rows : List Row) (row : Row) (n : ℕ) → length rows ≡ n → ((i j : ℕ) → i < n → said_in on rows i j ≡ P i j)
      → ((j : ℕ) → said_at on row.conditions.items j ≡ P n j) → (i j : ℕ) → i < n + 1 → said_in on (rows ++ row ∷ []) i j ≡ P i j
  rows_pushed P rows row n long before is i j low = ⊎_elim
      (λ e. subst (λ m. said_in on (rows ++ row ∷ []) m j ≡ P m j) (sym e) (ap (λ o. said_at on (row_of o) j) (row_pushed rows row n long) ∙ is j))
      (λ other. let less : i < n = omega (arith, low, other) in
      ap (λ o. said_at on (row_of o) j) (row_kept rows row i (omega (arith, long, less))) ∙ before i j less)
      (cases_eq i n)

  -- where they are looked at below a bound alone
  pub rows_pushed_below : (bound : ℕ) (P : ℕ → ℕ → Bool) (rows : List Row) (row : Row) (n : ℕ) → length rows ≡ n
      → ((i j : ℕ) → i < n → j < bound → said_in on rows i j ≡ P i j)
      → ((j : ℕ) → j < bound → said_at on row.conditions.items j ≡ P n j)
      → (i j : ℕ) → i < n + 1 → j < bound → said_in on (rows ++ row ∷ []) i j ≡ P i j
  rows_pushed_below bound P rows row n long before is i j low within = ⊎_elim
      (λ e. subst (λ m. said_in on (rows ++ row ∷ []) m j ≡ P m j) (sym e) (ap (λ o. said_at on (row_of o) j) (row_pushed rows row n long) ∙ is j within))
      (λ other. let less : i < n = omega (arith, low, other) in
      ap (λ o. said_at on (row_of o) j) (row_kept rows row i (omega (arith, long, less))) ∙ before i j less within)
      (cases_eq i n)

  pub rows_all : (P : ℕ → ℕ → Bool) (rows : List Row) (n : ℕ) → length rows ≡ n → ((i j : ℕ) → i < n → said_in on rows i j ≡ P i j)
      → ((i j : ℕ) → n ≤ i → P i j ≡ false) → (i j : ℕ) → said_in on rows i j ≡ P i j
  rows_all P rows n long inside past i j = by (nat_lt i n) refl
    where
      by : (b : Bool) → nat_lt i n ≡ b → said_in on rows i j ≡ P i j
      by true e = inside i j (grind (arith, nat_tests))
      by false e =
          let high : n ≤ i = grind (arith, nat_tests) in
          no_rows rows i j (omega (arith, long, high)) ∙ sym (past i j high)

-- ---- the structs that rows are made for

pub and_false : (b : Bool) → (b && false) ≡ false
and_false true = refl
and_false false = refl

pub and_never : (a b : Bool) → b ≡ false → (a && b) ≡ false
and_never true b h = h
and_never false b h = refl

module _ {S : Type 0} (f : S → PlainTag) (xs : List S) where
  pub tag_past : (k : ℕ) → length xs ≤ k → slice_get (map f xs) k ≡ None
  tag_past k h = slice_get-map f xs k ∙ ap (option_map f) (slice_get_past xs k h)

  pub tag_at_place : (k : ℕ) (x : S) → k < length xs → x ≡ get_or xs k x → slice_get (map f xs) k ≡ Some (f x)
  tag_at_place k x low is = slice_get-map f xs k ∙ ap (option_map f) (slice_get-get_or xs k x low ∙ ap Some (sym is))

  pub no_struct : (alike : ℕ → ℕ → Bool) (a : PlainTag) (b : Bool) (k : ℕ) → length xs ≤ k → (b && structs_agree alike (Some a) (slice_get (map f xs) k)) ≡ false
  no_struct alike a b k h = and_never b (structs_agree alike (Some a) (slice_get (map f xs) k)) (ap (structs_agree alike (Some a)) (tag_past k h))

  pub is_below : (k : ℕ) → is_some (slice_get (map f xs) k) ≡ nat_lt k (length xs)
  is_below k = by (nat_lt k (length xs)) refl
    where
      by : (b : Bool) → nat_lt k (length xs) ≡ b → is_some (slice_get (map f xs) k) ≡ b
      by true e =
          let low : k < length xs = grind (arith, nat_tests) in
          ap is_some (slice_get-map f xs k) ∙ some_there k low
        where
          some_there : (k : ℕ) → k < length xs → is_some (option_map f (slice_get xs k)) ≡ true
          some_there k low = by_list xs k low
            where
              by_list : (ys : List S) (k : ℕ) → k < length ys → is_some (option_map f (slice_get ys k)) ≡ true
              by_list [] k low = absurd (omega (arith, low))
              by_list (y ∷ ys) zero low = refl
              by_list (y ∷ ys) (suc k) low = by_list ys k (omega (arith, low))
      by false e =
          let high : length xs ≤ k = grind (arith, nat_tests) in
          ap is_some (tag_past k high)
