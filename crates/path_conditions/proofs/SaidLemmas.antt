-- All or some of several conditions.
use Rattle.std.proofs.Common.{◌≡◌, ℕ, zero, suc, ◌<◌, Bool, true, false, ◌&&◌, List, [], ◌∷◌, length, get_or, refl, ap, ◌∙◌, arith}
use Rattle.cond_formula.specs.declared.formulas.Formula.{Formula}
use Rattle.cond_formula.specs.Conditions.{condition_of, conditions_of, value, all_true}

and_false : (a : Bool) → (a && false) ≡ false
and_false true = refl
and_false false = refl

-- a conjunction is false where one of its parts is
pub false_part : (on : ℕ → Bool) (parts : List Formula) (i : ℕ) (part : Formula) → i < length parts → part ≡ get_or parts i part → value on (condition_of part) ≡ false → all_true on (conditions_of parts) ≡ false
false_part on [] i part within is one = absurd (omega arith)
false_part on (x ∷ parts) zero part within is one = ap (λ (b : Bool). b && all_true on (conditions_of parts)) (let here = rw is at one in here)
false_part on (x ∷ parts) (suc i) part within is one =
    ap (λ (b : Bool). value on (condition_of x) && b) (false_part on parts i part (omega arith) is one) ∙ and_false (value on (condition_of x))
