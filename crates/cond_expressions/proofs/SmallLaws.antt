-- Lists of conditions that are put together in another way and say the same.
use Rattle.std.proofs.Common.{◌≡◌, ℕ, zero, suc, ◌<◌, Bool, true, false, not, ◌&&◌, ◌||◌, List, [], ◌∷◌, take, drop, map, length, get_or, IsTrue, refl, sym, ap, ◌∙◌, arith}
use Rattle.std.specs.Prelude.{Vec, remove}
use Rattle.std.specs.declared.alloc.Global.{Global}
use Rattle.std.proofs.Math.Bool.{and_assoc, or_assoc, or_comm, and-true}
use Rattle.cond_formula.specs.declared.formulas.Formula.{Formula, And}
use Rattle.cond_formula.specs.Conditions.{Condition, condition_of, conditions, conditions_of, value, all_true, any_true}
use Rattle.cond_formula.specs.ConditionLaws.{formula_kinds, condition_of-And}

pub all_one : (on : ℕ → Bool) (f : Formula) (fs : List Formula) → fs ≡ f ∷ [] → all_true on (conditions_of fs) ≡ value on (condition_of f)
all_one on f fs is = ap (λ (l : List Formula). all_true on (conditions_of l)) is ∙ and-true (value on (condition_of f))

pub all_of_and : (on : ℕ → Bool) (f : Formula) (parts : Vec Formula Global) (fs : List Formula) → f ≡ And parts → fs ≡ parts.items → all_true on (conditions_of fs) ≡ value on (condition_of f)
all_of_and on f parts fs is same = rw (is, same, condition_of-And parts) refl

pub all_split : (on : ℕ → Bool) (n : ℕ) (fs : List Formula) → (all_true on (conditions_of (take n fs)) && all_true on (conditions_of (drop n fs))) ≡ all_true on (conditions_of fs)
all_split on zero [] = refl
all_split on zero (f ∷ fs) = refl
all_split on (suc n) [] = refl
all_split on (suc n) (f ∷ fs) =
    and_assoc (value on (condition_of f)) (all_true on (conditions_of (take n fs))) (all_true on (conditions_of (drop n fs)))
    ∙ ap (λ (b : Bool). value on (condition_of f) && b) (all_split on n fs)

pub factor : (p r s : Bool) → (p && (r || s)) ≡ ((p && r) || (p && s))
factor true r s = refl
factor false r s = refl

pub and_reduced : (a r b : Bool) → (IsTrue a → r ≡ b) → (a && r) ≡ (a && b)
and_reduced true r b is = is refl
and_reduced false r b is = refl

pub inverse_or : (a b : Bool) → a ≡ not b → true ≡ (a || b)
inverse_or true b is = refl
inverse_or false true is = refl
inverse_or false false is = cc

pub any_without : (on : ℕ → Bool) (fs : List Formula) (i : ℕ) (f : Formula) → i < length fs → f ≡ get_or fs i f →
    (any_true on (conditions_of (remove fs i)) || value on (condition_of f)) ≡ any_true on (conditions_of fs)
any_without on [] i f within is = absurd (omega arith)
any_without on (x ∷ fs) zero f within is =
    or_comm (any_true on (conditions_of fs)) (value on (condition_of f)) ∙ ap (λ (y : Formula). value on (condition_of y) || any_true on (conditions_of fs)) is
any_without on (x ∷ fs) (suc i) f within is =
    or_assoc (value on (condition_of x)) (any_true on (conditions_of (remove fs i))) (value on (condition_of f))
    ∙ ap (λ (b : Bool). value on (condition_of x) || b) (any_without on fs i f (omega arith) is)

pub front_more : (a b : List Formula) (i : ℕ) (x y : Formula) → i < length a → i < length b → x ≡ get_or a i x → y ≡ get_or b i y → condition_of x ≡ condition_of y →
    map condition_of (take i a) ≡ map condition_of (take i b) → map condition_of (take (suc i) a) ≡ map condition_of (take (suc i) b)
front_more [] b i x y within also is_x is_y same so_far = absurd (omega arith)
front_more (p ∷ a) [] i x y within also is_x is_y same so_far = absurd (omega arith)
front_more (p ∷ a) (q ∷ b) zero x y within also is_x is_y same so_far = cc
front_more (p ∷ a) (q ∷ b) (suc i) x y within also is_x is_y same so_far =
    let head : condition_of p ≡ condition_of q = cc in
    let tail : map condition_of (take i a) ≡ map condition_of (take i b) = cc in
    let more = front_more a b i x y (omega arith) (omega arith) is_x is_y same tail in
    cc

pub factored_says : (on : ℕ → Bool) (a b : List Formula) (n : ℕ) (f front rest first second : Bool) →
    map condition_of (take n a) ≡ map condition_of (take n b) → f ≡ (front && rest) → rest ≡ (first || second) → front ≡ all_true on (conditions_of (take n a)) →
    first ≡ all_true on (conditions_of (drop n a)) → second ≡ all_true on (conditions_of (drop n b)) → f ≡ (all_true on (conditions_of a) || all_true on (conditions_of b))
factored_says on a b n f front rest first second same is_f is_rest is_front is_first is_second =
    is_f ∙ rw (is_rest, is_front, is_first, is_second) refl
    ∙ factor (all_true on (conditions_of (take n a))) (all_true on (conditions_of (drop n a))) (all_true on (conditions_of (drop n b)))
    ∙ ap (λ (k : Bool). k || (all_true on (conditions_of (take n a)) && all_true on (conditions_of (drop n b)))) (all_split on n a)
    ∙ ap (λ (l : List Condition). all_true on (conditions_of a) || (all_true on (conditions l) && all_true on (conditions_of (drop n b)))) same
    ∙ ap (λ (k : Bool). all_true on (conditions_of a) || k) (all_split on n b)

pub joined_says : (on : ℕ → Bool) (fs : List Formula) (i : ℕ) (part : Formula) (f others one b : Bool) → i < length fs → part ≡ get_or fs i part →
    f ≡ (others || one) → others ≡ any_true on (conditions_of (remove fs i)) → one ≡ (value on (condition_of part) || b) → f ≡ (any_true on (conditions_of fs) || b)
joined_says on fs i part f others one b within is is_f is_others is_one =
    is_f ∙ rw (is_others, is_one) refl
    ∙ sym (or_assoc (any_true on (conditions_of (remove fs i))) (value on (condition_of part)) b)
    ∙ ap (λ (k : Bool). k || b) (any_without on fs i part within is)

pub ruleset small_laws = (all_one, all_of_and, all_split, factor, and_reduced, inverse_or, formula_kinds)
