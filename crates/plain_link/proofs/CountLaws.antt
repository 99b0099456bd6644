-- Counts of definitions, one more at a time.
use Rattle.std.proofs.Common.{◌≡◌, ℕ, suc, ◌+◌, ◌≤◌, Bool, true, false, not, ◌&&◌, ◌||◌, List, [], ◌∷◌, ◌++◌, length, ⊎_elim, refl, sym, ap, ◌∙◌, zero-add, arith}
use Rattle.std.specs.Prelude.{Option, Some, None, if◌then◌else◌}
use Rattle.std.specs.Cmp.Lexicographic.{bytes_decides}
use Rattle.std.specs.Str.{bytes_eq}
use Rattle.std.proofs.lemmas.Bool.{cases_Bool}
use Rattle.core_meaning.specs.UnitNames.{Defined}
use Rattle.core_meaning.specs.Linking.{count_whole, is_tentative, or_zero}
use Rattle.plain_link.specs.Counts.{is_defined_in, count_defined_in, count_of, with_one}

or_assoc : (a b c : Bool) → (a || (b || c)) ≡ ((a || b) || c)
or_assoc true b c = refl
or_assoc false b c = refl

or_none : (a : Bool) → (a || false) ≡ a
or_none true = refl
or_none false = refl

defined_more : (xs : List Defined) (d : Defined) (name : List ℕ) → is_defined_in (xs ++ d ∷ []) name ≡ (is_defined_in xs name || bytes_eq d.name name)
defined_more [] d name = or_none (bytes_eq d.name name)
defined_more (x ∷ xs) d name = rw (defined_more xs d name) (or_assoc (bytes_eq x.name name) (is_defined_in xs name) (bytes_eq d.name name))

whole_more : (xs : List Defined) (d : Defined) (name : List ℕ) → count_whole (xs ++ d ∷ []) name ≡ count_whole xs name + (if bytes_eq d.name name && not (is_tentative d.body) then 1 else 0)
whole_more [] d name = omega arith
whole_more (x ∷ xs) d name = rw (whole_more xs d name) (omega arith)

whole_undefined : (xs : List Defined) (name : List ℕ) → is_defined_in xs name ≡ false → count_whole xs name ≡ 0
whole_undefined [] name h = refl
whole_undefined (x ∷ xs) name h =
    let parts = or_parts (bytes_eq x.name name) (is_defined_in xs name) h in
    rw parts.0 (zero-add (count_whole xs name) ∙ whole_undefined xs name parts.1)
  where
    or_parts : (a b : Bool) → (a || b) ≡ false → (a ≡ false) × (b ≡ false)
    or_parts true b h = absurd cc
    or_parts false b h = (refl, h)

pub whole_within : (xs : List Defined) (name : List ℕ) → count_whole xs name ≤ length xs
whole_within [] name = omega arith
whole_within (x ∷ xs) name = within (bytes_eq x.name name && not (is_tentative x.body)) (count_whole xs name) (length xs) (whole_within xs name)
  where
    within : (t : Bool) (m n : ℕ) → m ≤ n → (if t then 1 else 0) + m ≤ suc n
    within true m n h = omega arith
    within false m n h = omega arith

count_is : (xs : List Defined) (name : List ℕ) → or_zero (count_of xs name) ≡ count_whole xs name
count_is xs name =
    ⊎_elim
    (λ (t : is_defined_in xs name ≡ true). rw t refl)
    (λ (t : is_defined_in xs name ≡ false). rw t (sym (whole_undefined xs name t)))
    (cases_Bool (is_defined_in xs name))

pub count_within : (xs : List Defined) (name : List ℕ) → or_zero (count_of xs name) ≤ length xs
count_within xs name = rw (count_is xs name) (whole_within xs name)

pub count_more : (xs : List Defined) (d : Defined) (name : List ℕ) → count_of (xs ++ d ∷ []) name ≡ with_one (count_of xs) d name
count_more xs d name =
    rw (defined_more xs d name, whole_more xs d name)
    (⊎_elim
    (λ (t : bytes_eq d.name name ≡ true).
    let e : d.name ≡ name = (bytes_decides d.name name).0 t in
    rw t (with_this (is_defined_in xs name) (count_whole xs name) (or_zero (count_of xs d.name)) (is_tentative d.body) (ap (λ n. or_zero (count_of xs n)) e ∙ count_is xs name)))
    (λ (t : bytes_eq d.name name ≡ false). rw t (without (is_defined_in xs name) (count_whole xs name)))
    (cases_Bool (bytes_eq d.name name)))
  where
    with_this : (a : Bool) (n m : ℕ) (t : Bool) → m ≡ n → (if a || true then Some (n + (if not t then 1 else 0)) else None) ≡ Some (m + (if t then 0 else 1))
    with_this true n m true e = ap (λ x. Some (x + 0)) (sym e)
    with_this true n m false e = ap (λ x. Some (x + 1)) (sym e)
    with_this false n m true e = ap (λ x. Some (x + 0)) (sym e)
    with_this false n m false e = ap (λ x. Some (x + 1)) (sym e)

    without : (a : Bool) (n : ℕ) → (if a || false then Some (n + 0) else None) ≡ (if a then Some n else None)
    without true n = ap (λ x. Some x) (omega arith)
    without false n = refl

pub undefined_count : (xs : List Defined) (name : List ℕ) → count_of xs name ≡ None → count_defined_in xs name ≡ 0
undefined_count xs name h =
    ⊎_elim
    (λ (t : is_defined_in xs name ≡ true). absurd (some_not_none (rw t at h)))
    (λ (t : is_defined_in xs name ≡ false). rw (whole_undefined xs name t, t) refl)
    (cases_Bool (is_defined_in xs name))
  where
    some_not_none : {n : ℕ} → Some n ≡ None → ⊥
    some_not_none e = cc

pub with_one_same : (a b : List ℕ → Option ℕ) (d : Defined) (name : List ℕ) → ((n : List ℕ) → a n ≡ b n) → with_one a d name ≡ with_one b d name
with_one_same a b d name same =
    ap (λ (o : Option ℕ). if bytes_eq d.name name then Some (or_zero o + (if is_tentative d.body then 0 else 1)) else a name) (same d.name)
    ∙ ap (λ (o : Option ℕ). if bytes_eq d.name name then Some (or_zero (b d.name) + (if is_tentative d.body then 0 else 1)) else o) (same name)
