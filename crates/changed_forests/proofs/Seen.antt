-- What a configuration sees of trees with other tokens: by induction on items, parts and alternatives at once.
use Rattle.std.proofs.Common.{◌≡◌, ℕ, suc, Bool, true, false, List, [], ◌∷◌, map, refl, sym, ap, ◌∙◌}
use Rattle.std.specs.Prelude.{if◌then◌else◌, Some, None}
use Rattle.cond_formula.specs.Conditions.{value}
use Rattle.c_text.specs.declared.origin.FileToken.{FileToken}
use Rattle.c_tree.specs.declared.kinds.Kind.{Kind}
use Rattle.c_tree.specs.declared.kinds.Kind.TheVariants.{Unit}
use Rattle.c_tree.specs.Trees.{PlainTrees, node, more}
use Rattle.choice_trees.specs.ChoiceTrees.{PlainItem, PlainChoices, PlainBranches, token, inner, no_choice, choice, no_branch, branch, plain_choices, needs_statement, no_statement, semicolon, with_part, item_at, parts_at, branch_at}
use Rattle.choice_trees.specs.Leaves.{Leaf, item_leaves, parts_leaves, branch_leaves}
use Rattle.moved_programs.specs.Trees.{moved_tree, moved_trees}
use Rattle.changed_forests.specs.Changed.{Change, changed_item, changed_choices, changed_branches, changed_leaf}
use Rattle.changed_forests.specs.Renamed.{renaming, renamed_tree, renamed_trees}
use Rattle.changed_forests.specs.Numbered.{numbering, unsited}
use Rattle.changed_forests.specs.Laws.{ChangesAreSeen, RenamingsAreSeen, NumberingsAreSeen}

-- ---- leaves

module _ (change : Change) (on : ℕ → Bool) where
  abbrev all : List Leaf → List Leaf
  all leaves = map (changed_leaf change) leaves

  mutual
    item_told : (item : PlainItem) (behind : List Leaf) → item_leaves on (changed_item change item) (all behind) ≡ all (item_leaves on item behind)
    item_told (token number text) behind = refl
    item_told (inner kind parts) behind = parts_told kind 0 parts behind

    pub parts_told : (kind : Kind) (place : ℕ) (parts : PlainChoices) (behind : List Leaf) → parts_leaves on kind place (changed_choices change parts) (all behind) ≡ all (parts_leaves on kind place parts behind)
    parts_told kind place no_choice behind = refl
    parts_told kind place (choice alternatives rest) behind =
        branches_told (needs_statement kind place) alternatives (parts_leaves on kind (suc place) rest behind) (parts_leaves on kind (suc place) (changed_choices change rest) (all behind)) (parts_told kind (suc place) rest behind)

    branches_told : (needed : Bool) (alternatives : PlainBranches) (leaves others : List Leaf) → others ≡ all leaves
        → branch_leaves on needed (changed_branches change alternatives) others ≡ all (branch_leaves on needed alternatives leaves)
    branches_told true no_branch leaves others same = ap (λ rest. record { number = None; text = semicolon } ∷ rest) same
    branches_told false no_branch leaves others same = same
    branches_told needed (branch when item rest) leaves others same =
        elim (value on when) as (λ holds. (if holds then item_leaves on (changed_item change item) others else branch_leaves on needed (changed_branches change rest) others)
        ≡ all (if holds then item_leaves on item leaves else branch_leaves on needed rest leaves)) [
          | true ↦ ap (item_leaves on (changed_item change item)) same ∙ item_told item leaves
          | false ↦ branches_told needed rest leaves others same
        ]

pub changes_are_seen_lem : ChangesAreSeen
changes_are_seen_lem change old new is on =
    ap (λ parts. parts_leaves on Unit 0 parts []) is ∙ parts_told change on Unit 0 (plain_choices old.items.items) []

-- ---- trees with a new name

module _ (class : List FileToken) (name : List ℕ) (on : ℕ → Bool) where
  mutual
    item_named : (item : PlainItem) → item_at on (changed_item (renaming class name) item) ≡ renamed_tree class name (item_at on item)
    item_named (token number text) = refl
    item_named (inner kind parts) = ap (node kind) (parts_named kind 0 parts)

    pub parts_named : (kind : Kind) (place : ℕ) (parts : PlainChoices) → parts_at on kind place (changed_choices (renaming class name) parts) ≡ renamed_trees class name (parts_at on kind place parts)
    parts_named kind place no_choice = refl
    parts_named kind place (choice alternatives rest) =
        branches_named (needs_statement kind place) alternatives (parts_at on kind (suc place) rest) (parts_at on kind (suc place) (changed_choices (renaming class name) rest)) (parts_named kind (suc place) rest)

    branches_named : (needed : Bool) (alternatives : PlainBranches) (parts others : PlainTrees) → others ≡ renamed_trees class name parts
        → with_part needed (branch_at on (changed_branches (renaming class name) alternatives)) others ≡ renamed_trees class name (with_part needed (branch_at on alternatives) parts)
    branches_named true no_branch parts others same = ap (more no_statement) same
    branches_named false no_branch parts others same = same
    branches_named needed (branch when item rest) parts others same =
        elim (value on when) as (λ holds. with_part needed (if holds then Some (item_at on (changed_item (renaming class name) item)) else branch_at on (changed_branches (renaming class name) rest)) others
        ≡ renamed_trees class name (with_part needed (if holds then Some (item_at on item) else branch_at on rest) parts)) [
          | true ↦ ap (λ t. more t others) (item_named item) ∙ ap (more (renamed_tree class name (item_at on item))) same
          | false ↦ branches_named needed rest parts others same
        ]

pub renamings_are_seen_lem : RenamingsAreSeen
renamings_are_seen_lem class name old new is on = ap (λ parts. node Unit (parts_at on Unit 0 parts)) is ∙ ap (node Unit) (parts_named class name on Unit 0 (plain_choices old.items.items))

-- ---- trees whose tokens tell their numbers

module _ (on : ℕ → Bool) where
  mutual
    item_same : (item : PlainItem) → moved_tree unsited (item_at on item) ≡ moved_tree unsited (item_at on (changed_item numbering item))
    item_same (token number text) = refl
    item_same (inner kind parts) = ap (node kind) (parts_same kind 0 parts)

    pub parts_same : (kind : Kind) (place : ℕ) (parts : PlainChoices) → moved_trees unsited (parts_at on kind place parts) ≡ moved_trees unsited (parts_at on kind place (changed_choices numbering parts))
    parts_same kind place no_choice = refl
    parts_same kind place (choice alternatives rest) =
        branches_same (needs_statement kind place) alternatives (parts_at on kind (suc place) rest) (parts_at on kind (suc place) (changed_choices numbering rest)) (parts_same kind (suc place) rest)

    branches_same : (needed : Bool) (alternatives : PlainBranches) (parts others : PlainTrees) → moved_trees unsited parts ≡ moved_trees unsited others
        → moved_trees unsited (with_part needed (branch_at on alternatives) parts) ≡ moved_trees unsited (with_part needed (branch_at on (changed_branches numbering alternatives)) others)
    branches_same true no_branch parts others same = ap (more (moved_tree unsited no_statement)) same
    branches_same false no_branch parts others same = same
    branches_same needed (branch when item rest) parts others same =
        elim (value on when) as (λ holds. moved_trees unsited (with_part needed (if holds then Some (item_at on item) else branch_at on rest) parts)
        ≡ moved_trees unsited (with_part needed (if holds then Some (item_at on (changed_item numbering item)) else branch_at on (changed_branches numbering rest)) others)) [
          | true ↦ ap (λ t. more t (moved_trees unsited parts)) (item_same item) ∙ ap (more (moved_tree unsited (item_at on (changed_item numbering item)))) same
          | false ↦ branches_same needed rest parts others same
        ]

pub numberings_are_seen_lem : NumberingsAreSeen
numberings_are_seen_lem old new is on =
    ap (node Unit) (parts_same on Unit 0 (plain_choices old.items.items)) ∙ ap (λ parts. moved_tree unsited (node Unit (parts_at on Unit 0 parts))) (sym is)
