-- A condition has a least model, or none.
use Rattle.std.proofs.Common.{◌≡◌, inl, inr, ◌⊎◌, ℕ, zero, suc, ◌+◌, ◌<◌, ◌≤◌, Bool, true, false, ◌&&◌, nat_lt, List, [], ◌∷◌, ◌++◌, length, get_or, IsTrue, refl, sym, ap, subst, ◌∙◌, arith}
use Rattle.std.proofs.lemmas.Bool.{cases_lt, lt-ltb}
use Rattle.std.proofs.lemmas.List.{get_or_past, length-append}
use Rattle.cond_formula.specs.Features.{has}
use Rattle.cond_formula.specs.Conditions.{Condition, VarsBelow, value}
use Rattle.cond_formula.specs.ConditionLaws.{value_same_below}
use Rattle.sat_core.specs.Models.{IsLess, AreSame, IsLeastModel, HasNoModel}

-- ---- one more feature

front : (p : List Bool) (b : Bool) (i : ℕ) → i < length p → get_or (p ++ b ∷ []) i false ≡ get_or p i false
front [] b i h = absurd (omega arith)
front (x ∷ p) b zero h = refl
front (x ∷ p) b (suc i) h = front p b i (omega arith)

at_end : (p : List Bool) (b : Bool) → get_or (p ++ b ∷ []) (length p) false ≡ b
at_end [] b = refl
at_end (x ∷ p) b = at_end p b

has_front : (p : List Bool) (b : Bool) (i : ℕ) → i < length p → has (p ++ b ∷ []) i ≡ has p i
unfolding has
has_front p b i h = ap (λ v. nat_lt i 128 && v) (front p b i h)

pub has_end : (p : List Bool) (b : Bool) → length p < 128 → has (p ++ b ∷ []) (length p) ≡ b
unfolding has
has_end p b h = ap (λ t. t && get_or (p ++ b ∷ []) (length p) false) (lt-ltb (length p) 128 h) ∙ at_end p b

and-false : (a : Bool) → (a && false) ≡ false
and-false true = refl
and-false false = refl

pub has_past : (p : List Bool) (i : ℕ) → length p ≤ i → has p i ≡ false
unfolding has
has_past p i h = ap (λ v. nat_lt i 128 && v) (get_or_past p i false h) ∙ and-false (nat_lt i 128)

pub one_longer : (p : List Bool) (b : Bool) → length (p ++ b ∷ []) ≡ length p + 1
one_longer p b = length-append p (b ∷ [])

-- the set has the features as they were chosen
abbrev pub Follows : List Bool → (ℕ → Bool) → Type 0
Follows p on = (i : ℕ) → i < length p → has p i ≡ on i

pub follows_more : (p : List Bool) (b : Bool) (on : ℕ → Bool) → length p < 128 → Follows p on → on (length p) ≡ b → Follows (p ++ b ∷ []) on
follows_more p b on h f e i inside =
    elim (cases_lt i (length p)) [
      | inl small ↦ has_front p b i small ∙ f i small
      | inr last ↦
          let same : i ≡ length p = omega (arith, inside, last, one_longer p b) in
          subst (λ k. has (p ++ b ∷ []) k ≡ on k) (sym same) (has_end p b h ∙ sym e)
    ]

pub shorter : (p : List Bool) (b : Bool) (on : ℕ → Bool) → Follows (p ++ b ∷ []) on → Follows p on
shorter p b on f i inside = sym (has_front p b i inside) ∙ f i (omega (arith, inside, one_longer p b))

module _ (n : ℕ) (few : n ≤ 128) (model : Condition) (below : VarsBelow n model) where
  record HasLeast (p : List Bool) : Type 0 where
    config : List Bool
    sized : length config ≡ n
    starts : Follows p (has config)
    holds : IsTrue (value (has config) model)
    least : (on : ℕ → Bool) → IsTrue (value on model) → Follows p on → AreSame n (has config) on ⊎ IsLess n (has config) on

  abbrev HasNone : List Bool → Type 0
  HasNone p = (on : ℕ → Bool) → Follows p on → value on model ≡ false

  false_true : (b : Bool) → b ≡ false → IsTrue b → ⊥
  false_true true e t = let no : ◌≡◌ {A = Bool} true false = e in cc
  false_true false e t = let no : ◌≡◌ {A = Bool} false true = t in cc

  off_first : (p : List Bool) → length p < n → HasLeast (p ++ false ∷ []) → HasLeast p
  off_first p h found = record {
    config = found.config;
    sized = found.sized;
    starts = shorter p false (has found.config) found.starts;
    holds = found.holds;
    least = λ on t f. by on t f (on (length p)) refl;
  }
    where
      by : (on : ℕ → Bool) → IsTrue (value on model) → Follows p on → (b : Bool) → on (length p) ≡ b → AreSame n (has found.config) on ⊎ IsLess n (has found.config) on
      by on t f false e = found.least on t (follows_more p false on (omega (arith, h, few)) f e)
      by on t f true e = inr (record {
        first = length p;
        within = h;
        same_before = λ i inside. sym (shorter p false (has found.config) found.starts i inside) ∙ f i inside;
        off = sym (found.starts (length p) (omega (arith, one_longer p false))) ∙ has_end p false (omega (arith, h, few));
        other_on = e;
      })

  on_first : (p : List Bool) → length p < n → HasNone (p ++ false ∷ []) → HasLeast (p ++ true ∷ []) → HasLeast p
  on_first p h none found = record {
    config = found.config;
    sized = found.sized;
    starts = shorter p true (has found.config) found.starts;
    holds = found.holds;
    least = λ on t f. by on t f (on (length p)) refl;
  }
    where
      by : (on : ℕ → Bool) → IsTrue (value on model) → Follows p on → (b : Bool) → on (length p) ≡ b → AreSame n (has found.config) on ⊎ IsLess n (has found.config) on
      by on t f true e = found.least on t (follows_more p true on (omega (arith, h, few)) f e)
      by on t f false e = absurd (false_true (value on model) (none on (follows_more p false on (omega (arith, h, few)) f e)) t)

  neither : (p : List Bool) → length p < n → HasNone (p ++ false ∷ []) → HasNone (p ++ true ∷ []) → HasNone p
  neither p h none none' on f = by (on (length p)) refl
    where
      by : (b : Bool) → on (length p) ≡ b → value on model ≡ false
      by false e = none on (follows_more p false on (omega (arith, h, few)) f e)
      by true e = none' on (follows_more p true on (omega (arith, h, few)) f e)

  same_value : (p : List Bool) (on : ℕ → Bool) → length p ≡ n → Follows p on → value (has p) model ≡ value on model
  same_value p on e f = value_same_below n (has p) on (λ i inside. f i (omega (arith, inside, e))) model below

  all_chosen : (p : List Bool) → length p ≡ n → HasLeast p ⊎ HasNone p
  all_chosen p e = by (value (has p) model) refl
    where
      by : (b : Bool) → value (has p) model ≡ b → HasLeast p ⊎ HasNone p
      by true h = inl (record { config = p; sized = e; starts = λ i inside. refl; holds = h; least = λ on t f. inl (record { same = λ i inside. f i (omega (arith, inside, e)) }) })
      by false h = inr (λ on f. sym (same_value p on e f) ∙ h)

  search : (m : ℕ) (p : List Bool) → length p + m ≡ n → HasLeast p ⊎ HasNone p
  search zero p e = all_chosen p (omega (arith, e))
  search (suc m) p e = by (search m (p ++ false ∷ []) (omega (arith, e, one_longer p false))) (search m (p ++ true ∷ []) (omega (arith, e, one_longer p true)))
    where
      inside : length p < n
      inside = omega (arith, e)

      by : HasLeast (p ++ false ∷ []) ⊎ HasNone (p ++ false ∷ []) → HasLeast (p ++ true ∷ []) ⊎ HasNone (p ++ true ∷ []) → HasLeast p ⊎ HasNone p
      by (inl found) other = inl (off_first p inside found)
      by (inr none) (inl found) = inl (on_first p inside none found)
      by (inr none) (inr none') = inr (neither p inside none none')

  pub record HasLeastModel : Type 0 where
    pub config : List Bool
    pub is_least : IsLeastModel n model config

  pub least_or_none : HasLeastModel ⊎ HasNoModel model
  least_or_none =
      elim (search n [] (omega arith)) [
        | inl found ↦ inl (record {
          config = found.config;
          is_least = record {
            holds = found.holds;
            within = λ i past. has_past found.config i (omega (arith, past, found.sized));
            least = λ on t. found.least on t (λ i inside. absurd (omega (arith, inside)));
          };
        })
        | inr none ↦ inr (λ on. none on (λ i inside. absurd (omega (arith, inside))))
      ]
