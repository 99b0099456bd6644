-- Lists of formulas of which each has the same value, or names features below a number.
use Rattle.std.proofs.Common.{◌≡◌, ℕ, Bool, ◌&&◌, ◌||◌, List, [], ◌∷◌, map, true, false, refl, sym, ap, ◌∙◌}
use Rattle.std.specs.Prelude.{All}
use Rattle.std.specs.List.{AllByRecursion}
use Rattle.std.proofs.lemmas.List.Elements.{recursion_from_All}
use Rattle.cond_formula.specs.declared.formulas.Formula.{Formula}
use Rattle.cond_formula.specs.Conditions.{condition_of, conditions_of, value, all_true, any_true, VarsBelow, AllVarsBelow}

abbrev values : (ℕ → Bool) → List Formula → List Bool
values on fs = map (λ f. value on (condition_of f)) fs

abbrev all_in : List Bool → Bool
all_in [] = true
all_in (b ∷ rest) = b && all_in rest

abbrev any_in : List Bool → Bool
any_in [] = false
any_in (b ∷ rest) = b || any_in rest

all_is : (on : ℕ → Bool) (fs : List Formula) → all_true on (conditions_of fs) ≡ all_in (values on fs)
all_is on [] = refl
all_is on (f ∷ fs) = rw (all_is on fs) refl

any_is : (on : ℕ → Bool) (fs : List Formula) → any_true on (conditions_of fs) ≡ any_in (values on fs)
any_is on [] = refl
any_is on (f ∷ fs) = rw (any_is on fs) refl

pub all_as_values : (on : ℕ → Bool) (fs gs : List Formula) → map (λ f. value on (condition_of f)) fs ≡ map (λ f. value on (condition_of f)) gs → all_true on (conditions_of fs) ≡ all_true on (conditions_of gs)
all_as_values on fs gs same = all_is on fs ∙ (ap all_in same ∙ sym (all_is on gs))

pub any_as_values : (on : ℕ → Bool) (fs gs : List Formula) → map (λ f. value on (condition_of f)) fs ≡ map (λ f. value on (condition_of f)) gs → any_true on (conditions_of fs) ≡ any_true on (conditions_of gs)
any_as_values on fs gs same = any_is on fs ∙ (ap any_in same ∙ sym (any_is on gs))

below_each : (features : ℕ) (fs : List Formula) → AllByRecursion (λ f. VarsBelow features (condition_of f)) fs → AllVarsBelow features (conditions_of fs)
below_each features [] h = tt
below_each features (f ∷ fs) h = (h.0, below_each features fs h.1)

pub all_below : (features : ℕ) (fs : List Formula) → All (λ f. VarsBelow features (condition_of f)) fs → AllVarsBelow features (conditions_of fs)
all_below features fs h = below_each features fs (recursion_from_All (λ f. VarsBelow features (condition_of f)) fs h)
