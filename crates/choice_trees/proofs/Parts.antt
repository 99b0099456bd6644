-- Parts that are put one behind the other.
use Rattle.std.proofs.Common.{◌≡◌, ℕ, suc, ◌+◌, ◌<◌, ◌≤◌, Bool, true, false, Some, None, List, [], ◌∷◌, ◌++◌, drop, length, get_or, refl, sym, ap, ◌∙◌, add-one, drop-cons}
use Rattle.std.proofs.lemmas.List.{drop_all}
use Rattle.c_tree.specs.declared.kinds.Kind.{Kind}
use Rattle.c_tree.specs.declared.trees.Tree.{Tree}
use Rattle.c_tree.specs.Trees.{PlainTrees, none, more, plain_tree, plain_trees}
use Rattle.choice_trees.specs.declared.trees.Choice.{Choice}
use Rattle.choice_trees.specs.declared.trees.Item.{Item}
use Rattle.choice_trees.specs.ChoiceTrees.{plain_branches, plain_choices, needs_statement, no_statement, with_part, branch_at, parts_at}

abbrev pub also : PlainTrees → PlainTrees → PlainTrees
also none rest = rest
also (more first others) rest = more first (also others rest)

pub also_none : (parts : PlainTrees) → also parts none ≡ parts
also_none none = refl
also_none (more first others) = ap (more first) (also_none others)

pub one_more : (list : List Tree) (t : Tree) (rest : PlainTrees) → also (plain_trees (list ++ t ∷ [])) rest ≡ also (plain_trees list) (more (plain_tree t) rest)
one_more [] t rest = refl
one_more (first ∷ others) t rest = ap (more (plain_tree first)) (one_more others t rest)

item_of : (xs : List (Choice Item)) (x : Choice Item) (i : ℕ) → i < length xs → x ≡ get_or xs i x → drop i xs ≡ x ∷ drop (i + 1) xs
item_of xs x i within is = rw (add-one, drop-cons xs i x within) (ap (λ y. y ∷ drop (suc i) xs) (sym is))

-- ---- one part after the other

module _ (on : ℕ → Bool) (kind : Kind) (parts : List (Choice Item)) where
  abbrev all : PlainTrees
  all = parts_at on kind 0 (plain_choices parts)

  -- how far the parts from this place on have come
  abbrev pub SoFar : ℕ → List Tree → Type 0
  SoFar place done = also (plain_trees done) (parts_at on kind place (plain_choices (drop place parts))) ≡ all

  pub parts_end : (place : ℕ) (done : List Tree) → length parts ≤ place → SoFar place done → plain_trees done ≡ all
  parts_end place done past h = sym (also_none (plain_trees done)) ∙ (ap (λ rest. also (plain_trees done) (parts_at on kind place (plain_choices rest))) (sym (drop_all place parts past)) ∙ h)

  module _ (place : ℕ) (c : Choice Item) (within : place < length parts) (is : c ≡ get_or parts place c) (done : List Tree) (before : SoFar place done) where
    abbrev behind : PlainTrees
    behind = parts_at on kind (place + 1) (plain_choices (drop (place + 1) parts))

    here : also (plain_trees done) (with_part (needs_statement kind place) (branch_at on (plain_branches c.branches.items)) behind) ≡ all
    here =
        ap (λ n. also (plain_trees done) (with_part (needs_statement kind place) (branch_at on (plain_branches c.branches.items)) (parts_at on kind n (plain_choices (drop (place + 1) parts))))) (add-one place) ∙
        (ap (λ rest. also (plain_trees done) (parts_at on kind place (plain_choices rest))) (sym (item_of parts c place within is)) ∙ before)

    pub one_part : (t : Tree) (now : List Tree) → now ≡ done ++ t ∷ [] → branch_at on (plain_branches c.branches.items) ≡ Some (plain_tree t) → SoFar (place + 1) now
    one_part t now grown found =
        ap (λ list. also (plain_trees list) behind) grown ∙ (one_more done t behind ∙
        (ap (λ part. also (plain_trees done) (with_part (needs_statement kind place) part behind)) (sym found) ∙ here))

    pub no_part : (t : Tree) (now : List Tree) → now ≡ done ++ t ∷ [] → branch_at on (plain_branches c.branches.items) ≡ None → needs_statement kind place ≡ true → plain_tree t ≡ no_statement → SoFar (place + 1) now
    no_part t now grown missing needed same =
        ap (λ list. also (plain_trees list) behind) grown ∙ (one_more done t behind ∙
        (ap (λ tree. also (plain_trees done) (more tree behind)) same ∙
        (ap (λ b. also (plain_trees done) (with_part b None behind)) (sym needed) ∙
        (ap (λ part. also (plain_trees done) (with_part (needs_statement kind place) part behind)) (sym missing) ∙ here))))

    pub left_out : branch_at on (plain_branches c.branches.items) ≡ None → needs_statement kind place ≡ false → SoFar (place + 1) done
    left_out missing needed =
        ap (λ b. also (plain_trees done) (with_part b None behind)) (sym needed) ∙
        (ap (λ part. also (plain_trees done) (with_part (needs_statement kind place) part behind)) (sym missing) ∙ here)
