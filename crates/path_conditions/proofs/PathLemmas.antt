-- Conjunctions that go on.
use Rattle.std.proofs.Common.{◌≡◌, ℕ, Bool, true, false, not, ◌&&◌, ◌||◌, List, [], ◌∷◌, ◌++◌, IsTrue, refl, sym, ap, ◌∙◌}
use Rattle.cond_formula.specs.declared.formulas.Formula.{Formula}
use Rattle.cond_formula.specs.Conditions.{condition_of, conditions_of, value, all_true}

pub and_assoc : (a b c : Bool) → (a && b) && c ≡ a && (b && c)
and_assoc true b c = refl
and_assoc false b c = refl

pub and_true : (a : Bool) → (a && true) ≡ a
and_true true = refl
and_true false = refl

pub and_again : (a b : Bool) → ((a && b) && b) ≡ (a && b)
and_again true true = refl
and_again true false = refl
and_again false b = refl

pub and_implied : (a b : Bool) → (IsTrue a → IsTrue b) → (a && b) ≡ a
and_implied true b h = h refl
and_implied false b h = refl

pub all_append : (on : ℕ → Bool) (xs ys : List Formula) → all_true on (conditions_of (xs ++ ys)) ≡ (all_true on (conditions_of xs) && all_true on (conditions_of ys))
all_append on [] ys = refl
all_append on (x ∷ xs) ys =
    ap (λ b. value on (condition_of x) && b) (all_append on xs ys)
    ∙ sym (and_assoc (value on (condition_of x)) (all_true on (conditions_of xs)) (all_true on (conditions_of ys)))

pub all_push : (on : ℕ → Bool) (xs : List Formula) (x : Formula) → all_true on (conditions_of (xs ++ x ∷ [])) ≡ (all_true on (conditions_of xs) && value on (condition_of x))
all_push on xs x = all_append on xs (x ∷ []) ∙ ap (λ b. all_true on (conditions_of xs) && b) (and_true (value on (condition_of x)))

pub not_any : (a b : Bool) → not (a || b) ≡ (not a && not b)
not_any true b = refl
not_any false b = refl

pub ruleset path_steps = (all_append, all_push, and_assoc, and_again)
