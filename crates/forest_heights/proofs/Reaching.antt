-- The height of the highest of several parts, and of a node over them.
use Rattle.std.proofs.Common.{◌≡◌, ℕ, ◌+◌, ◌-◌, ◌<◌, ◌≤◌, max, Bool, true, false, ◌||◌, if◌then◌else◌, Option, Some, None, List, drop, length, get_or, nat_le, refl, sym, ap, ◌∙◌, add-one, arith}
use Rattle.std.proofs.lemmas.Bool.Decides.{nat_tests}
use Rattle.cond_formula.specs.declared.formulas.Formula.{Formula, True, False}
use Rattle.cond_formula.specs.Conditions.{condition_of, value}
use Rattle.cond_formula.specs.ConditionLaws.{condition_of-True, condition_of-False}
use Rattle.c_tree.specs.declared.kinds.Kind.{Kind}
use Rattle.c_tree.specs.Trees.{PlainTree, PlainTrees}
use Rattle.c_tree.specs.Heights.{highest_of}
use Rattle.choice_trees.specs.declared.trees.Choice.{Choice}
use Rattle.choice_trees.specs.declared.trees.Item.{Item}
use Rattle.choice_trees.specs.ChoiceTrees.{plain_branches, plain_choices, needs_statement, with_part, branch_at, parts_at}
use Rattle.forest_heights.specs.Levels.{height_or, missing_height}
use Rattle.forest_heights.proofs.Choosing.{item_of}

or_assoc : (a b c : Bool) → ((a || b) || c) ≡ (a || (b || c))
or_assoc true b c = refl
or_assoc false b c = refl

reach_max : (high a b : ℕ) → (nat_le high a || nat_le high b) ≡ nat_le high (max a b)
reach_max high a b = grind (arith, nat_tests)

reach_zero : (high highest : ℕ) → high ≡ 0 → true ≡ nat_le high highest
reach_zero high highest is = grind (arith, nat_tests)

pub zero_reached : (on : ℕ → Bool) (high highest : ℕ) → high ≡ 0 → value on (condition_of True) ≡ nat_le high highest
zero_reached on high highest is = ap (value on) condition_of-True ∙ reach_zero high highest is

-- ---- one part after the other

highest_with : (needed : Bool) (part : Option PlainTree) (rest : PlainTrees) → max (height_or (if needed then 1 else 0) part) (highest_of rest) ≡ highest_of (with_part needed part rest)
highest_with needed (Some part) rest = refl
highest_with true None rest = refl
highest_with false None rest = omega arith

module _ (on : ℕ → Bool) (kind : Kind) (high : ℕ) (parts : List (Choice Item)) where
  -- what was reached before this place, or is from there on
  abbrev pub ReachedSoFar : ℕ → Formula → Type 0
  ReachedSoFar place reached =
      (value on (condition_of reached) || nat_le high (highest_of (parts_at on kind place (plain_choices (drop place parts))))) ≡ nat_le high (highest_of (parts_at on kind 0 (plain_choices parts)))

  pub none_reached : ReachedSoFar 0 False
  none_reached = rw condition_of-False refl

  module _ (place : ℕ) (part : Choice Item) (within : place < length parts) (is : part ≡ get_or parts place part) where
    abbrev here_is : Option PlainTree
    here_is = branch_at on (plain_branches part.branches.items)

    abbrev behind : PlainTrees
    behind = parts_at on kind (place + 1) (plain_choices (drop (place + 1) parts))

    pub one_part : (reached here next : Formula) →
        value on (condition_of here) ≡ nat_le high (height_or (missing_height kind place) here_is) →
        value on (condition_of next) ≡ (value on (condition_of reached) || value on (condition_of here)) →
        ReachedSoFar place reached → ReachedSoFar (place + 1) next
    one_part reached here next told either before =
        ap (λ (b : Bool). b || nat_le high (highest_of behind)) (either ∙ ap (λ (b : Bool). value on (condition_of reached) || b) told)
        ∙ (or_assoc (value on (condition_of reached)) (nat_le high (height_or (missing_height kind place) here_is)) (nat_le high (highest_of behind))
        ∙ (ap (λ (b : Bool). value on (condition_of reached) || b)
        (reach_max high (height_or (missing_height kind place) here_is) (highest_of behind) ∙ ap (nat_le high) (highest_with (needs_statement kind place) here_is behind))
        ∙ (ap (λ (n : ℕ). value on (condition_of reached) || nat_le high (highest_of (with_part (needs_statement kind place) here_is (parts_at on kind n (plain_choices (drop (place + 1) parts)))))) (add-one place)
        ∙ (ap (λ (xs : List (Choice Item)). value on (condition_of reached) || nat_le high (highest_of (parts_at on kind place (plain_choices xs)))) (sym (item_of parts part place within is))
        ∙ before))))

-- ---- the lowest height that can matter

pub no_levels : (high long number highest : ℕ) → number ≤ long → long ≡ 0 → nat_le (high - long) highest ≡ nat_le high (number + highest)
no_levels high long number highest within empty = grind (arith, nat_tests)

pub nothing_lower : (high long number highest : ℕ) → number ≤ long → nat_le (high - long) highest ≡ false → false ≡ nat_le high (number + highest)
nothing_lower high long number highest within never = grind (arith, nat_tests)
