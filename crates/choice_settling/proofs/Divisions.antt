-- A path that goes on in two ways.
use Rattle.std.proofs.Common.{◌≡◌, ℕ, Bool, not, ◌&&◌, List, ap, ◌∙◌}
use Rattle.cond_formula.specs.declared.formulas.Formula.{Formula}
use Rattle.cond_formula.specs.Conditions.{condition_of, conditions_of, value, all_true}

-- the paths of two alternatives
pub record Divides (path : List Formula) (f : Formula) (first_path second_path : List Formula) : Type 0 where
  pub first : (on : ℕ → Bool) → all_true on (conditions_of first_path) ≡ (all_true on (conditions_of path) && value on (condition_of f))
  pub second : (on : ℕ → Bool) → all_true on (conditions_of second_path) ≡ (all_true on (conditions_of path) && not (value on (condition_of f)))

pub divided_so : (path : List Formula) (f : Formula) (first second first_path second_path : List Formula) → first_path ≡ first → second_path ≡ second
    → ((on : ℕ → Bool) → all_true on (conditions_of first) ≡ (all_true on (conditions_of path) && value on (condition_of f)))
    → ((on : ℕ → Bool) → all_true on (conditions_of second) ≡ (all_true on (conditions_of path) && not (value on (condition_of f))))
    → Divides path f first_path second_path
divided_so path f first second first_path second_path one other firsts seconds = record {
  first = λ on. ap (λ p. all_true on (conditions_of p)) one ∙ firsts on;
  second = λ on. ap (λ p. all_true on (conditions_of p)) other ∙ seconds on;
}
