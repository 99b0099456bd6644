-- The connectives of formulas, by the forms that they are built in.
use Rattle.std.proofs.Common.{◌≡◌, ℕ, ◌<◌, IsTrue, Bool, ◌&&◌, ◌||◌, List, [], ◌∷◌, ◌++◌, refl, sym, ap, ◌∙◌}
use Rattle.std.proofs.Math.Bool.{and_assoc, or_assoc, and_comm, or_comm, and-true, or-false, not-not}
use Rattle.std.specs.declared.alloc.Global.{Global}
use Rattle.std.specs.Prelude.{Vec, Box}
use Rattle.cond_formula.specs.declared.formulas.Formula.{Formula, True, False, Not, And, Or}
use Rattle.cond_formula.specs.Conditions.{Condition, condition_of, conditions_of, EachFeatureOf, value, all_true, any_true, IsNegation, IsConjunction, IsDisjunction}
use Rattle.cond_formula.specs.ConditionLaws.{condition_of-True, condition_of-False, condition_of-Not, condition_of-And, condition_of-Or}

pub negation-True : IsNegation (condition_of True) (condition_of False)
negation-True = rw (condition_of-True, condition_of-False) (record {
  holds = λ on. refl;
  names = λ test below. below;
  below = λ count below. below;
})

pub negation-False : IsNegation (condition_of False) (condition_of True)
negation-False = rw (condition_of-True, condition_of-False) (record {
  holds = λ on. refl;
  names = λ test below. below;
  below = λ count below. below;
})

pub negation-Not : (inner : Box Formula Global) → IsNegation (condition_of (Not inner)) (condition_of inner.value)
negation-Not inner = rw (condition_of-Not inner) (record {
  holds = λ on. sym (not-not (value on (condition_of inner.value)));
  names = λ test below. below;
  below = λ count below. below;
})

pub negation-other : (a : Formula) (inner : Box Formula Global) → inner.value ≡ a → IsNegation (condition_of a) (condition_of (Not inner))
negation-other a inner is = rw (condition_of-Not inner, is) (record {
  holds = λ on. refl;
  names = λ test below. below;
  below = λ count below. below;
})

EachFeatureOf-append : (Is : ℕ → Type 0) (xs ys : List Formula) → EachFeatureOf Is (conditions_of xs) → EachFeatureOf Is (conditions_of ys) → EachFeatureOf Is (conditions_of (xs ++ ys))
EachFeatureOf-append Is [] ys each also = also
EachFeatureOf-append Is (x ∷ xs) ys each also = (each.0, EachFeatureOf-append Is xs ys each.1 also)

pub all_true-append : (on : ℕ → Bool) (xs ys : List Formula) → all_true on (conditions_of (xs ++ ys)) ≡ (all_true on (conditions_of xs) && all_true on (conditions_of ys))
all_true-append on [] ys = refl
all_true-append on (x ∷ xs) ys =
    ap (λ (rest : Bool). value on (condition_of x) && rest) (all_true-append on xs ys)
    ∙ sym (and_assoc (value on (condition_of x)) (all_true on (conditions_of xs)) (all_true on (conditions_of ys)))

all_true-one : (on : ℕ → Bool) (x : Formula) → all_true on (conditions_of (x ∷ [])) ≡ value on (condition_of x)
all_true-one on x = and-true (value on (condition_of x))

pub conjunction-True : (f : Formula) → IsConjunction (condition_of True) (condition_of f) (condition_of f)
conjunction-True f = record {
  holds = λ on. rw condition_of-True;
  names = λ test _ below. below;
  below = λ count _ below. below;
}

pub conjunction-True_right : (f : Formula) → IsConjunction (condition_of f) (condition_of True) (condition_of f)
conjunction-True_right f = record {
  holds = λ on. rw condition_of-True (sym (and-true (value on (condition_of f))));
  names = λ test below _. below;
  below = λ count below _. below;
}

pub conjunction-append : (xs ys longer : Vec Formula Global) → longer.items ≡ xs.items ++ ys.items → IsConjunction (condition_of (And xs)) (condition_of (And ys)) (condition_of (And longer))
conjunction-append xs ys longer is = rw (condition_of-And xs, condition_of-And ys, condition_of-And longer, is) (record {
  holds = λ on. all_true-append on xs.items ys.items;
  names = λ test below also. EachFeatureOf-append (λ feature. IsTrue (test feature)) xs.items ys.items below also;
  below = λ count below also. EachFeatureOf-append (λ feature. feature < count) xs.items ys.items below also;
})

pub conjunction-push : (xs longer : Vec Formula Global) (f : Formula) → longer.items ≡ xs.items ++ f ∷ [] → IsConjunction (condition_of (And xs)) (condition_of f) (condition_of (And longer))
conjunction-push xs longer f is = rw (condition_of-And xs, condition_of-And longer, is) (record {
  holds = λ on. all_true-append on xs.items (f ∷ []) ∙ ap (λ (b : Bool). all_true on (conditions_of xs.items) && b) (all_true-one on f);
  names = λ test below also. EachFeatureOf-append (λ feature. IsTrue (test feature)) xs.items (f ∷ []) below (also, tt);
  below = λ count below also. EachFeatureOf-append (λ feature. feature < count) xs.items (f ∷ []) below (also, tt);
})

pub conjunction_swap : (a b c : Condition) → IsConjunction a b c → IsConjunction b a c
conjunction_swap a b c is = record {
  holds = λ on. is.holds on ∙ and_comm (value on a) (value on b);
  names = λ test below also. is.names test also below;
  below = λ count below also. is.below count also below;
}

pub conjunction-pair : (a b : Formula) (both : Vec Formula Global) → both.items ≡ a ∷ b ∷ [] → IsConjunction (condition_of a) (condition_of b) (condition_of (And both))
conjunction-pair a b both is = rw (condition_of-And both, is) (record {
  holds = λ on. ap (λ (rest : Bool). value on (condition_of a) && rest) (all_true-one on b);
  names = λ test below also. (below, (also, tt));
  below = λ count below also. (below, (also, tt));
})

pub any_true-append : (on : ℕ → Bool) (xs ys : List Formula) → any_true on (conditions_of (xs ++ ys)) ≡ (any_true on (conditions_of xs) || any_true on (conditions_of ys))
any_true-append on [] ys = refl
any_true-append on (x ∷ xs) ys =
    ap (λ (rest : Bool). value on (condition_of x) || rest) (any_true-append on xs ys)
    ∙ sym (or_assoc (value on (condition_of x)) (any_true on (conditions_of xs)) (any_true on (conditions_of ys)))

any_true-one : (on : ℕ → Bool) (x : Formula) → any_true on (conditions_of (x ∷ [])) ≡ value on (condition_of x)
any_true-one on x = or-false (value on (condition_of x))

pub disjunction-False : (f : Formula) → IsDisjunction (condition_of False) (condition_of f) (condition_of f)
disjunction-False f = record {
  holds = λ on. rw condition_of-False;
  names = λ test _ below. below;
  below = λ count _ below. below;
}

pub disjunction-False_right : (f : Formula) → IsDisjunction (condition_of f) (condition_of False) (condition_of f)
disjunction-False_right f = record {
  holds = λ on. rw condition_of-False (sym (or-false (value on (condition_of f))));
  names = λ test below _. below;
  below = λ count below _. below;
}

pub disjunction-append : (xs ys longer : Vec Formula Global) → longer.items ≡ xs.items ++ ys.items → IsDisjunction (condition_of (Or xs)) (condition_of (Or ys)) (condition_of (Or longer))
disjunction-append xs ys longer is = rw (condition_of-Or xs, condition_of-Or ys, condition_of-Or longer, is) (record {
  holds = λ on. any_true-append on xs.items ys.items;
  names = λ test below also. EachFeatureOf-append (λ feature. IsTrue (test feature)) xs.items ys.items below also;
  below = λ count below also. EachFeatureOf-append (λ feature. feature < count) xs.items ys.items below also;
})

pub disjunction-push : (xs longer : Vec Formula Global) (f : Formula) → longer.items ≡ xs.items ++ f ∷ [] → IsDisjunction (condition_of (Or xs)) (condition_of f) (condition_of (Or longer))
disjunction-push xs longer f is = rw (condition_of-Or xs, condition_of-Or longer, is) (record {
  holds = λ on. any_true-append on xs.items (f ∷ []) ∙ ap (λ (b : Bool). any_true on (conditions_of xs.items) || b) (any_true-one on f);
  names = λ test below also. EachFeatureOf-append (λ feature. IsTrue (test feature)) xs.items (f ∷ []) below (also, tt);
  below = λ count below also. EachFeatureOf-append (λ feature. feature < count) xs.items (f ∷ []) below (also, tt);
})

pub disjunction_swap : (a b c : Condition) → IsDisjunction a b c → IsDisjunction b a c
disjunction_swap a b c is = record {
  holds = λ on. is.holds on ∙ or_comm (value on a) (value on b);
  names = λ test below also. is.names test also below;
  below = λ count below also. is.below count also below;
}

pub disjunction-pair : (a b : Formula) (both : Vec Formula Global) → both.items ≡ a ∷ b ∷ [] → IsDisjunction (condition_of a) (condition_of b) (condition_of (Or both))
disjunction-pair a b both is = rw (condition_of-Or both, is) (record {
  holds = λ on. ap (λ (rest : Bool). value on (condition_of a) || rest) (any_true-one on b);
  names = λ test below also. (below, (also, tt));
  below = λ count below also. (below, (also, tt));
})

pub ruleset negations = (negation-True, negation-False, negation-Not, negation-other)

pub ruleset conjunctions = (conjunction-True, conjunction-True_right, conjunction-append, conjunction-push, conjunction-pair, conjunction_swap)

pub ruleset disjunctions = (disjunction-False, disjunction-False_right, disjunction-append, disjunction-push, disjunction-pair, disjunction_swap)
