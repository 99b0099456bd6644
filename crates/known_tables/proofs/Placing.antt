-- How alternatives are placed one after the other.
use Rattle.std.proofs.Common.{◌≡◌, ℕ, Bool, true, false, ◌&&◌, ◌||◌, List, [], ◌∷◌, ◌++◌, IsTrue, refl, sym, ap, ◌∙◌}
use Rattle.cond_formula.specs.Conditions.{Condition, value}
use Rattle.conditional.specs.Entries.{Entry, some_holds, Carry, Places, PlacesUnder}

regroup : (o k m t : Bool) → ((o || (k && m)) || (t && k)) ≡ (o || (k && (m || t)))
regroup true k m t = refl
regroup false true true t = refl
regroup false true false true = refl
regroup false true false false = refl
regroup false false m true = refl
regroup false false m false = refl

both_true : {A : Type 0} (t k : Bool) → IsTrue (t && k) → (IsTrue t → IsTrue k → A) → A
both_true true true is next = next refl refl
both_true true false is next = cc
both_true false k is next = cc

module _ {P : Type 0} (on : ℕ → Bool) where
  holds_behind : (xs : List (Entry P)) (x : Entry P) → some_holds on (xs ++ x ∷ []) ≡ (some_holds on xs || value on x.when)
  holds_behind [] x = by (value on x.when)
    where
      by : (b : Bool) → (b || false) ≡ b
      by true = refl
      by false = refl
  holds_behind (y ∷ xs) x = ap (λ (b : Bool). value on y.when || b) (holds_behind xs x) ∙ by (value on y.when) (some_holds on xs) (value on x.when)
    where
      by : (a b c : Bool) → (a || (b || c)) ≡ ((a || b) || c)
      by true b c = refl
      by false b c = refl

  carry_before : (v : P) (xs : List (Entry P)) (x : Entry P) → Carry on v (xs ++ x ∷ []) → Carry on v xs
  carry_before v [] x carry = tt
  carry_before v (y ∷ xs) x carry = (carry.0, carry_before v xs x carry.1)

  carry_last : (v : P) (xs : List (Entry P)) (x : Entry P) → Carry on v (xs ++ x ∷ []) → IsTrue (value on x.when) → x.what ≡ v
  carry_last v [] x carry = carry.0
  carry_last v (y ∷ xs) x carry = carry_last v xs x carry.1

  pub none_placed : (when : Condition) (old : List (Entry P)) → PlacesUnder on when [] old old
  none_placed when old = record { held = by (some_holds on old) (value on when); carry = λ v carry also. carry }
    where
      by : (o k : Bool) → o ≡ (o || (k && false))
      by true k = refl
      by false true = refl
      by false false = refl

  -- one more of them is placed
  pub one_more_placed : (when here : Condition) (more : List (Entry P)) (x : Entry P) (old now new : List (Entry P)) → value on here ≡ (value on x.when && value on when)
      → PlacesUnder on when more old now → Places on here x.what now new → PlacesUnder on when (more ++ x ∷ []) old new
  one_more_placed when here more x old now new here_is before placed = record {
    held =
        placed.held ∙ ap (λ (b : Bool). some_holds on now || b) here_is ∙ ap (λ (b : Bool). b || (value on x.when && value on when)) before.held
        ∙ regroup (some_holds on old) (value on when) (some_holds on more) (value on x.when)
        ∙ ap (λ (b : Bool). some_holds on old || (value on when && b)) (sym (holds_behind more x));
    carry = λ v carry also. placed.carry v (before.carry v carry (λ t. carry_before v more x (also t)))
        (λ t. both_true (value on x.when) (value on when) (sym here_is ∙ t) (λ s k. carry_last v more x (also k) s));
  }
