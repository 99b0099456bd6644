-- The identifiers of an item, by its leaves and by the tree that is seen.
use Rattle.std.proofs.Common.{◌≡◌, ℕ, suc, Bool, true, false, filter, List, [], ◌∷◌, refl, ap}
use Rattle.std.specs.Prelude.{if◌then◌else◌, Some}
use Rattle.c_text.specs.Token.{PlainToken}
use Rattle.c_tree.specs.declared.kinds.Kind.{Kind}
use Rattle.c_tree.specs.Trees.{PlainTrees, written, all_written}
use Rattle.cond_formula.specs.Conditions.{value}
use Rattle.choice_trees.specs.ChoiceTrees.{PlainItem, PlainChoices, PlainBranches, token, inner, no_choice, choice, no_branch, branch, needs_statement, semicolon, with_part, item_at, parts_at, branch_at}
use Rattle.choice_trees.specs.Leaves.{Leaf, item_leaves, parts_leaves, branch_leaves}
use Rattle.bindings.specs.Bindings.{is_name}
use Rattle.member_uses.specs.Uses.{names_in}
use Rattle.cond_selections.specs.Selected.{identifiers}

-- the identifiers among the leaves of an item are those of the tree that is seen
module _ (on : ℕ → Bool) where
  mutual
    item_names :
        (item : PlainItem) (behind : List Leaf) (rest : List PlainToken) → identifiers behind ≡ filter is_name rest
        → identifiers (item_leaves on item behind) ≡ filter is_name (written (item_at on item) rest)
    item_names (token number text) behind rest same = ap (λ names. if is_name text then text ∷ names else names) same
    item_names (inner kind parts) behind rest same = parts_names kind 0 parts behind rest same

    parts_names :
        (kind : Kind) (place : ℕ) (parts : PlainChoices) (behind : List Leaf) (rest : List PlainToken) → identifiers behind ≡ filter is_name rest
        → identifiers (parts_leaves on kind place parts behind) ≡ filter is_name (all_written (parts_at on kind place parts) rest)
    parts_names kind place no_choice behind rest same = same
    parts_names kind place (choice alternatives others) behind rest same =
        branches_names (needs_statement kind place) alternatives (parts_leaves on kind (suc place) others behind) (parts_at on kind (suc place) others) rest
        (parts_names kind (suc place) others behind rest same)

    branches_names :
        (needed : Bool) (alternatives : PlainBranches) (leaves : List Leaf) (parts : PlainTrees) (rest : List PlainToken) → identifiers leaves ≡ filter is_name (all_written parts rest)
        → identifiers (branch_leaves on needed alternatives leaves) ≡ filter is_name (all_written (with_part needed (branch_at on alternatives) parts) rest)
    branches_names true no_branch leaves parts rest same = ap (λ names. if is_name semicolon then semicolon ∷ names else names) same
    branches_names false no_branch leaves parts rest same = same
    branches_names needed (branch when item others) leaves parts rest same =
        elim (value on when) as (λ holds. identifiers (if holds then item_leaves on item leaves else branch_leaves on needed others leaves) ≡ filter is_name (all_written (with_part needed (if holds then Some (item_at on item) else branch_at on others) parts) rest)) [
          | true ↦ item_names item leaves (all_written parts rest) same
          | false ↦ branches_names needed others leaves parts rest same
        ]

  pub item_identifiers : (item : PlainItem) → identifiers (item_leaves on item []) ≡ names_in (item_at on item)
  item_identifiers item = item_names item [] [] refl
