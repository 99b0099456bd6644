-- The first alternative that holds, asked one after the other.
use Rattle.std.proofs.Common.{◌≡◌, ℕ, suc, ◌+◌, ◌<◌, Bool, true, false, not, ◌&&◌, ◌||◌, if◌then◌else◌, Option, Some, List, ◌∷◌, drop, length, get_or, refl, sym, ap, ◌∙◌, add-one, drop-cons}
use Rattle.cond_formula.specs.declared.formulas.Formula.{Formula, True, False}
use Rattle.cond_formula.specs.Conditions.{condition_of, value}
use Rattle.cond_formula.specs.ConditionLaws.{condition_of-True, condition_of-False}
use Rattle.c_tree.specs.Trees.{PlainTree}
use Rattle.choice_trees.specs.declared.trees.Item.{Item}
use Rattle.choice_trees.specs.ChoiceTrees.{plain_item, plain_branches, item_at, branch_at}

pub item_of : {X : Type 0} (xs : List X) (x : X) (i : ℕ) → i < length xs → x ≡ get_or xs i x → drop i xs ≡ x ∷ drop (i + 1) xs
item_of xs x i within is = rw (add-one, drop-cons xs i x within) (ap (λ y. y ∷ drop (suc i) xs) (sym is))

or_false : (a : Bool) → (a || false) ≡ a
or_false true = refl
or_false false = refl

turn : (says : Option PlainTree → Bool) (t : PlainTree) (rest : Option PlainTree) (found left when : Bool) →
    ((found || (left && (when && says (Some t)))) || ((left && not when) && says rest)) ≡ (found || (left && says (if when then Some t else rest)))
turn says t rest true left when = refl
turn says t rest false false when = refl
turn says t rest false true true = or_false (says (Some t))
turn says t rest false true false = refl

-- ---- one alternative after the other

module _ (on : ℕ → Bool) (says : Option PlainTree → Bool) (list : List (Formula × Item)) where
  -- what was found before this place, and what the alternatives from there on say where none before it holds
  abbrev pub SoFar : ℕ → Formula → Formula → Type 0
  SoFar place found left =
      (value on (condition_of found) || (value on (condition_of left) && says (branch_at on (plain_branches (drop place list))))) ≡ says (branch_at on (plain_branches list))

  pub starts : SoFar 0 False True
  starts = rw (condition_of-False, condition_of-True) refl

  module _ (place : ℕ) (b : Formula × Item) (within : place < length list) (is : b ≡ get_or list place b) where
    abbrev here_is : PlainTree
    here_is = item_at on (plain_item b.1)

    abbrev behind : Option PlainTree
    behind = branch_at on (plain_branches (drop (place + 1) list))

    pub one_alternative : (found left next remaining here : Formula) →
        value on (condition_of here) ≡ says (Some here_is) →
        value on (condition_of next) ≡ (value on (condition_of found) || (value on (condition_of left) && (value on (condition_of b.0) && value on (condition_of here)))) →
        value on (condition_of remaining) ≡ (value on (condition_of left) && not (value on (condition_of b.0))) →
        SoFar place found left → SoFar (place + 1) next remaining
    one_alternative found left next remaining here told grown less before =
        ap (λ (x : Bool). x || (value on (condition_of remaining) && says behind))
        (grown ∙ ap (λ (h : Bool). value on (condition_of found) || (value on (condition_of left) && (value on (condition_of b.0) && h))) told)
        ∙ (ap (λ (x : Bool). (value on (condition_of found) || (value on (condition_of left) && (value on (condition_of b.0) && says (Some here_is)))) || (x && says behind)) less
        ∙ (turn says here_is behind (value on (condition_of found)) (value on (condition_of left)) (value on (condition_of b.0))
        ∙ (ap (λ (xs : List (Formula × Item)). value on (condition_of found) || (value on (condition_of left) && says (branch_at on (plain_branches xs)))) (sym (item_of list b place within is))
        ∙ before)))
