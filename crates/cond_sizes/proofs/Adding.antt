-- What parts come to together, by what the front and the back come to.
use Rattle.std.proofs.Common.{◌≡◌, ℕ, suc, ◌+◌, ◌/◌, ◌%◌, Bool, true, false, List, [], ◌∷◌, ◌++◌, length, refl, sym, ap, ◌∙◌, arith, length-append}
use Rattle.std.specs.Prelude.{Option, Some, None, option_map}
use Rattle.c_text.specs.Constants.{quoted_values}
use Rattle.c_tree.specs.declared.kinds.Kind.{Kind}
use Rattle.c_tree.specs.Trees.{PlainTree, PlainTrees, leaf, node, none, more}
use Rattle.choice_trees.specs.declared.trees.Choice.{Choice}
use Rattle.choice_trees.specs.declared.trees.Item.{Item}
use Rattle.choice_trees.specs.ChoiceTrees.{plain_branches, plain_choices, needs_statement, with_part, branch_at, parts_at}
use Rattle.conditional.specs.Judgements.{fine, refused, bind}
use Rattle.core_meaning.specs.Expressions.{count_entries, text_bytes, joined_bytes}
use Rattle.cond_sizes.specs.Sizes.{given}
use Rattle.cond_sizes.specs.Totals.{Measured, plus, total, of_part, one_each, half_up, length_of, text_length, with_zero}

zero_plus : (a : Measured) → a ≡ plus (fine 0) a
zero_plus (fine n) = ap fine (omega arith)
zero_plus (refused why) = refl

pub plus_zero : (a : Measured) → plus a (fine 0) ≡ a
plus_zero (fine n) = ap fine (omega arith)
plus_zero (refused why) = refl

plus_assoc : (a b c : Measured) → plus a (plus b c) ≡ plus (plus a b) c
plus_assoc (fine l) (fine m) (fine n) = ap fine (omega arith)
plus_assoc (fine l) (fine m) (refused why) = refl
plus_assoc (fine l) (refused why) c = refl
plus_assoc (refused why) b c = refl

module _ (measure : PlainTree → Measured) where
  total_with : (needed : Bool) (part : Option PlainTree) (rest : PlainTrees) → total measure (with_part needed part rest) ≡ plus (of_part measure needed part) (total measure rest)
  total_with needed (Some tree) rest = refl
  total_with true None rest = refl
  total_with false None rest = zero_plus (total measure rest)

  module _ (on : ℕ → Bool) (kind : Kind) where
    pub total_of_one : (place : ℕ) (part : Choice Item) → total measure (parts_at on kind place (plain_choices (part ∷ []))) ≡ of_part measure (needs_statement kind place) (branch_at on (plain_branches part.branches.items))
    total_of_one place part =
        total_with (needs_statement kind place) (branch_at on (plain_branches part.branches.items)) none
        ∙ plus_zero (of_part measure (needs_statement kind place) (branch_at on (plain_branches part.branches.items)))

    pub total_of_both : (place : ℕ) (front back : List (Choice Item))
        → total measure (parts_at on kind place (plain_choices (front ++ back)))
        ≡ plus (total measure (parts_at on kind place (plain_choices front))) (total measure (parts_at on kind (place + length front) (plain_choices back)))
    total_of_both place [] back =
        let e : place ≡ place + 0 = omega arith in
        zero_plus (total measure (parts_at on kind place (plain_choices back)))
        ∙ ap (λ n. plus (fine 0) (total measure (parts_at on kind n (plain_choices back)))) e
    total_of_both place (part ∷ front) back =
        let e : suc place + length front ≡ place + suc (length front) = omega arith in
        total_with (needs_statement kind place) (branch_at on (plain_branches part.branches.items)) (parts_at on kind (suc place) (plain_choices (front ++ back)))
        ∙ (ap (plus (of_part measure (needs_statement kind place) (branch_at on (plain_branches part.branches.items))))
        (total_of_both (suc place) front back
        ∙ ap (λ n. plus (total measure (parts_at on kind (suc place) (plain_choices front))) (total measure (parts_at on kind n (plain_choices back)))) e)
        ∙ (plus_assoc (of_part measure (needs_statement kind place) (branch_at on (plain_branches part.branches.items))) (total measure (parts_at on kind (suc place) (plain_choices front)))
        (total measure (parts_at on kind (place + suc (length front)) (plain_choices back)))
        ∙ ap (λ a. plus a (total measure (parts_at on kind (place + suc (length front)) (plain_choices back))))
        (sym (total_with (needs_statement kind place) (branch_at on (plain_branches part.branches.items)) (parts_at on kind (suc place) (plain_choices front))))))

-- ---- entries with commas between them

abbrev parts_in : PlainTrees → ℕ
parts_in none = 0
parts_in (more first others) = 1 + parts_in others

total_is : (trees : PlainTrees) → total one_each trees ≡ fine (parts_in trees)
total_is none = refl
total_is (more first others) = ap (plus (fine 1)) (total_is others)

half_is : (trees : PlainTrees) → parts_in trees / 2 + parts_in trees % 2 ≡ count_entries trees
half_is none = refl
half_is (more first none) = refl
half_is (more first (more comma rest)) = let deeper = half_is rest in omega (arith, deeper)

pub half_of_total : (trees : PlainTrees) → bind (total one_each trees) half_up ≡ fine (count_entries trees)
half_of_total trees = ap (λ t. bind t half_up) (total_is trees) ∙ ap fine (half_is trees)

-- ---- texts

joined : (first rest : Option (List ℕ)) → plus (length_of first) (length_of rest) ≡ length_of (joined_bytes first rest)
joined (Some a) (Some b) = ap fine (sym (length-append a b))
joined (Some a) None = refl
joined None rest = refl

text_total : (parts : PlainTrees) → total text_length parts ≡ length_of (text_bytes parts)
text_total none = refl
text_total (more (leaf token) rest) = ap (plus (length_of (quoted_values token.text))) (text_total rest) ∙ joined (quoted_values token.text) (text_bytes rest)
text_total (more (node kind parts) rest) = refl

with_its_zero : (bytes : Option (List ℕ)) → bind (length_of bytes) with_zero ≡ given (option_map (λ b. length b + 1) bytes)
with_its_zero None = refl
with_its_zero (Some bytes) = refl

pub texts_with_zero : (parts : PlainTrees) → bind (total text_length parts) with_zero ≡ given (option_map (λ b. length b + 1) (text_bytes parts))
texts_with_zero parts = ap (λ t. bind t with_zero) (text_total parts) ∙ with_its_zero (text_bytes parts)
