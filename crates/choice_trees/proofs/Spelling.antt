-- The tree of a configuration spells the tokens that the configuration sees: by induction on trees, parts and alternatives at once.
use Rattle.std.proofs.Common.{◌≡◌, ℕ, suc, Bool, true, false, List, [], ◌∷◌, refl, ap, ◌∙◌}
use Rattle.std.specs.Prelude.{if◌then◌else◌, Some}
use Rattle.cond_formula.specs.Conditions.{value}
use Rattle.c_text.specs.Token.{PlainToken}
use Rattle.c_tree.specs.declared.kinds.Kind.{Kind}
use Rattle.c_tree.specs.declared.kinds.Kind.TheVariants.{Unit}
use Rattle.c_tree.specs.Trees.{PlainTrees, written, all_written}
use Rattle.choice_trees.specs.ChoiceTrees.{PlainItem, PlainChoices, PlainBranches, token, inner, no_choice, choice, no_branch, branch, plain_choices, needs_statement, semicolon, with_part, item_at, parts_at, branch_at}
use Rattle.choice_trees.specs.Leaves.{Leaf, texts, item_leaves, parts_leaves, branch_leaves, LeavesAreSpelled}

module _ (on : ℕ → Bool) where
  mutual
    item_spells : (item : PlainItem) (behind : List Leaf) → texts (item_leaves on item behind) ≡ written (item_at on item) (texts behind)
    item_spells (token number text) behind = refl
    item_spells (inner kind parts) behind = parts_spell kind 0 parts behind

    parts_spell : (kind : Kind) (place : ℕ) (parts : PlainChoices) (behind : List Leaf) → texts (parts_leaves on kind place parts behind) ≡ all_written (parts_at on kind place parts) (texts behind)
    parts_spell kind place no_choice behind = refl
    parts_spell kind place (choice alternatives rest) behind =
        branches_spell (needs_statement kind place) alternatives (parts_leaves on kind (suc place) rest behind) (parts_at on kind (suc place) rest) (texts behind) (parts_spell kind (suc place) rest behind)

    branches_spell : (needed : Bool) (alternatives : PlainBranches) (leaves : List Leaf) (parts : PlainTrees) (behind : List PlainToken) → texts leaves ≡ all_written parts behind → texts (branch_leaves on needed alternatives leaves) ≡ all_written (with_part needed (branch_at on alternatives) parts) behind
    branches_spell true no_branch leaves parts behind same = ap (λ rest. semicolon ∷ rest) same
    branches_spell false no_branch leaves parts behind same = same
    branches_spell needed (branch when item rest) leaves parts behind same =
        elim (value on when) as (λ holds. texts (if holds then item_leaves on item leaves else branch_leaves on needed rest leaves) ≡ all_written (with_part needed (if holds then Some (item_at on item) else branch_at on rest) parts) behind) [
          | true ↦ item_spells item leaves ∙ ap (written (item_at on item)) same
          | false ↦ branches_spell needed rest leaves parts behind same
        ]

pub leaves_are_spelled_lem : LeavesAreSpelled
leaves_are_spelled_lem on forest = parts_spell on Unit 0 (plain_choices forest.items.items) []
