-- The places of two lists, and what is under way in a row of pairs of them.
use Rattle.std.proofs.Common.{◌≡◌, ℕ, zero, suc, ◌+◌, ◌<◌, ◌≤◌, Bool, ◌||◌, List, [], ◌∷◌, ◌++◌, Option, IsTrue, drop, length, get_or, refl, sym, ap, ◌∙◌, subst, add-one, arith}
use Rattle.std.proofs.lemmas.List.{drop_all}
use Rattle.std.proofs.Math.Bool.{or_assoc, or-false}
use Rattle.cond_formula.specs.declared.formulas.Formula.{Formula, False}
use Rattle.cond_formula.specs.Conditions.{condition_of, value}
use Rattle.cond_formula.specs.ConditionLaws.{condition_of-False}
use Rattle.conditional.specs.declared.entries.Guarded.{Guarded}
use Rattle.conditional.specs.Entries.{some_holds, Carry}
use Rattle.conditional.proofs.ListLaws.{item_of}
use Rattle.matched_lists.specs.Matched.{there, StartsWith, behind, AreThere}
use Rattle.matched_lists.specs.Rows.{after, leaving, places}

-- ---- what stands behind so many entries

after_suc : {T P : Type 0} (on : ℕ → Bool) (xs rest : List (Guarded T)) (ps : List P) (x : Guarded T) (n : ℕ) → drop n xs ≡ x ∷ rest → after on xs ps (suc n) ≡ behind (there on x) (after on xs ps n)
after_suc on [] rest ps x zero is = cc
after_suc on [] rest ps x (suc n) is = cc
after_suc on (y ∷ xs) rest ps x zero is = let same : y ≡ x = cc in ap (λ z. behind (there on z) ps) same
after_suc on (y ∷ xs) rest ps x (suc n) is = after_suc on xs rest (behind (there on y) ps) x n is

pub after_next :
    {T P : Type 0} (on : ℕ → Bool) (xs : List (Guarded T)) (ps : List P) (x : Guarded T) (n : ℕ) → n < length xs → x ≡ get_or xs n x
    → after on xs ps (n + 1) ≡ behind (there on x) (after on xs ps n)
after_next on xs ps x n within is = rw add-one (after_suc on xs (drop (n + 1) xs) ps x n (item_of xs x n within is))

pub there_after : {T P : Type 0} (on : ℕ → Bool) (Is : T → P → Type 0) (xs : List (Guarded T)) (ps : List P) (n : ℕ) → AreThere on Is xs ps → AreThere on Is (drop n xs) (after on xs ps n)
there_after on Is [] ps zero h = h
there_after on Is [] ps (suc n) h = h
there_after on Is (x ∷ xs) ps zero h = h
there_after on Is (x ∷ xs) ps (suc n) h = there_after on Is xs (behind (there on x) ps) n h.1

pub starts_after :
    {T P : Type 0} (on : ℕ → Bool) (Is : T → P → Type 0) (xs : List (Guarded T)) (ps : List P) (x : Guarded T) (n : ℕ) → n < length xs → x ≡ get_or xs n x → AreThere on Is xs ps
    → StartsWith (there on x) Is x.what (after on xs ps n)
starts_after on Is xs ps x n within is h =
    let e = item_of xs x n within is in
    let h' = there_after on Is xs ps n h in
    let h'' = rw e at h' in
    h''.0

pub ends_after : {T P : Type 0} (on : ℕ → Bool) (Is : T → P → Type 0) (xs : List (Guarded T)) (ps : List P) (n : ℕ) → length xs ≤ n → AreThere on Is xs ps → after on xs ps n ≡ []
ends_after on Is xs ps n past h =
    let e = drop_all n xs past in
    let h' = there_after on Is xs ps n h in
    let h'' = rw e at h' in
    h''

-- ---- rows

never_holds : {A : Type 0} (on : ℕ → Bool) → IsTrue (value on (condition_of False)) → A
never_holds on t = let t' = rw condition_of-False at t in cc

-- the place that comes next, and those behind it
opened_held :
    {N : Type 0} (on : ℕ → Bool) (left : ℕ → Option N) (k n : ℕ) (fs : List Formula)
    → some_holds on (places left k (drop n fs)) ≡ (value on (condition_of (get_or fs n False)) || some_holds on (places left (k + 1) (drop (suc n) fs)))
opened_held on left k zero [] = rw condition_of-False refl
opened_held on left k (suc n) [] = rw condition_of-False refl
opened_held on left k zero (f ∷ fs) = refl
opened_held on left k (suc n) (f ∷ fs) = opened_held on left k n fs

opened_carry :
    {N : Type 0} (on : ℕ → Bool) (v : Option N) (left : ℕ → Option N) (k n : ℕ) (fs : List Formula) → Carry on v (places left k (drop n fs))
    → Carry on v (leaving (get_or fs n False) (left k) ∷ places left (k + 1) (drop (suc n) fs))
opened_carry on v left k zero [] carry = ((λ t. never_holds on t), tt)
opened_carry on v left k (suc n) [] carry = ((λ t. never_holds on t), tt)
opened_carry on v left k zero (f ∷ fs) carry = carry
opened_carry on v left k (suc n) (f ∷ fs) carry = opened_carry on v left k n fs carry

pub next_held :
    {N : Type 0} (on : ℕ → Bool) (left : ℕ → Option N) (k n : ℕ) (fs : List Formula)
    → some_holds on (places left k (drop n fs)) ≡ (value on (condition_of (get_or fs n False)) || some_holds on (places left (k + 1) (drop (n + 1) fs)))
next_held on left k n fs =
    let e : suc n ≡ n + 1 = omega arith in
    subst (λ m. some_holds on (places left k (drop n fs)) ≡ (value on (condition_of (get_or fs n False)) || some_holds on (places left (k + 1) (drop m fs)))) e (opened_held on left k n fs)

pub next_carry :
    {N : Type 0} (on : ℕ → Bool) (v : Option N) (left : ℕ → Option N) (k n : ℕ) (fs : List Formula) → Carry on v (places left k (drop n fs))
    → Carry on v (leaving (get_or fs n False) (left k) ∷ places left (k + 1) (drop (n + 1) fs))
next_carry on v left k n fs carry =
    let e : suc n ≡ n + 1 = omega arith in
    subst (λ m. Carry on v (leaving (get_or fs n False) (left k) ∷ places left (k + 1) (drop m fs))) e (opened_carry on v left k n fs carry)

-- one place more
pub pushed_held :
    {N : Type 0} (on : ℕ → Bool) (left : ℕ → Option N) (k : ℕ) (fs : List Formula) (f : Formula)
    → some_holds on (places left k (fs ++ f ∷ [])) ≡ (some_holds on (places left k fs) || value on (condition_of f))
pushed_held on left k [] f = or-false (value on (condition_of f))
pushed_held on left k (g ∷ fs) f =
    ap (λ (b : Bool). value on (condition_of g) || b) (pushed_held on left (k + 1) fs f)
    ∙ sym (or_assoc (value on (condition_of g)) (some_holds on (places left (k + 1) fs)) (value on (condition_of f)))

pub pushed_carry :
    {N : Type 0} (on : ℕ → Bool) (v : Option N) (left : ℕ → Option N) (k : ℕ) (fs : List Formula) (f : Formula) → Carry on v (places left k fs)
    → (IsTrue (value on (condition_of f)) → left (k + length fs) ≡ v) → Carry on v (places left k (fs ++ f ∷ []))
pushed_carry on v left k [] f carry here =
    let e : k ≡ k + 0 = omega arith in
    ((λ t. ap left e ∙ here t), tt)
pushed_carry on v left k (g ∷ fs) f carry here =
    let e : (k + 1) + length fs ≡ k + length (g ∷ fs) = omega arith in
    (carry.0, pushed_carry on v left (k + 1) fs f carry.1 (λ t. ap left e ∙ here t))
