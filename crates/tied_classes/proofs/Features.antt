-- A configuration without the features that a project doesn't have.
use Rattle.std.proofs.Common.{◌≡◌, ℕ, ◌<◌, ◌≤◌, ◌&&◌, Bool, true, false, List, take, nat_lt, refl, ap, ◌∙◌, arith}
use Rattle.std.proofs.lemmas.List.{get_or-take, get_or_past, length-take}
use Rattle.cond_formula.specs.Features.{has}
use Rattle.cond_formula.specs.Conditions.{Condition, value, VarsBelow}
use Rattle.cond_formula.specs.ConditionLaws.{value_same_below}

has_within : (n : ℕ) (c : List Bool) (feature : ℕ) → feature < n → has (take n c) feature ≡ has c feature
unfolding has
has_within n c feature within = ap (λ b. nat_lt feature 128 && b) (get_or-take n c feature false within)

and_false : (b : Bool) → (b && false) ≡ false
and_false true = refl
and_false false = refl

pub has_none : (n : ℕ) (c : List Bool) (feature : ℕ) → n ≤ feature → has (take n c) feature ≡ false
unfolding has
has_none n c feature past =
    let short = length-take n c in
    ap (λ b. nat_lt feature 128 && b) (get_or_past (take n c) feature false (omega (arith, short))) ∙ and_false (nat_lt feature 128)

-- what names these features alone is as true
pub same_within : (n : ℕ) (c : List Bool) (condition : Condition) → VarsBelow n condition → value (has (take n c)) condition ≡ value (has c) condition
same_within n c condition below = value_same_below n (has (take n c)) (has c) (λ feature within. has_within n c feature within) condition below
