-- What is seen of a whole node is made of what is seen of its parts.
use Rattle.std.proofs.Common.{◌≡◌, ℕ, zero, suc, ◌+◌, ◌≤◌, Bool, true, false, not, List, [], ◌∷◌, ◌++◌, length, map, append_assoc, Option, Some, None, IsTrue, refl, sym, ap, ◌∙◌, arith}
use Rattle.std.specs.Bool.{if◌then◌else◌}
use Rattle.std.specs.Prelude.{option_map}
use Rattle.std.proofs.lemmas.Bool.Decides.{nat_tests}
use Rattle.cond_formula.specs.Conditions.{value}
use Rattle.c_tree.specs.declared.kinds.Kind.{Kind}
use Rattle.c_tree.specs.declared.kinds.Kind.TheVariants.{If, Else, While, Do, For}
use Rattle.c_tree.specs.Grammar.{row}
use Rattle.c_tree.specs.Trees.{PlainTree, PlainTrees, node, more, trees}
use Rattle.c_tree.specs.Places.{Place}
use Rattle.choice_trees.specs.ChoiceTrees.{PlainItem, PlainChoices, PlainBranches, token, inner, no_choice, choice, no_branch, branch, needs_statement, semicolon, with_part, item_at, parts_at, branch_at}
use Rattle.choice_trees.specs.Leaves.{Leaf, item_leaves, parts_leaves, branch_leaves}
use Rattle.choice_states.specs.Seen.{Seen, leaves_of, node_seen, Parts, in_front, seen_at, branch_seen, parts_seen}
use Rattle.choice_states.specs.Parts.{is_empty, is_there, first_of, values, aligned, is_numbered, if_numbered, is_aligned, parts_are_whole}
use Rattle.choice_states.specs.States.{arriving, arrived, made, closed, as_part}
use Rattle.choice_states.specs.States as states
use Rattle.choice_states.proofs.PartLists.{values-none}

module _ (on : ℕ → Bool) where
  -- ---- leaves, and leaves behind them

  abbrev mutual
    item_behind : (item : PlainItem) (behind : List Leaf) → item_leaves on item behind ≡ item_leaves on item [] ++ behind
    item_behind (token number text) behind = refl
    item_behind (inner kind parts) behind = parts_behind kind 0 parts behind

    parts_behind : (kind : Kind) (place : ℕ) (parts : PlainChoices) (behind : List Leaf) → parts_leaves on kind place parts behind ≡ parts_leaves on kind place parts [] ++ behind
    parts_behind kind place no_choice behind = refl
    parts_behind kind place (choice alternatives rest) behind =
        branches_behind (needs_statement kind place) alternatives (parts_leaves on kind (suc place) rest behind) (parts_leaves on kind (suc place) rest []) behind (parts_behind kind (suc place) rest behind)

    branches_behind : (needed : Bool) (alternatives : PlainBranches) (all leaves behind : List Leaf) → all ≡ leaves ++ behind → branch_leaves on needed alternatives all ≡ branch_leaves on needed alternatives leaves ++ behind
    branches_behind true no_branch all leaves behind same = ap (λ (rest : List Leaf). record { number = None; text = semicolon } ∷ rest) same
    branches_behind false no_branch all leaves behind same = same
    branches_behind needed (branch when item rest) all leaves behind same =
        elim (value on when) as (λ holds. (if holds then item_leaves on item all else branch_leaves on needed rest all) ≡ (if holds then item_leaves on item leaves else branch_leaves on needed rest leaves) ++ behind) [
          | true ↦ item_behind item all ∙ ap (λ ls. item_leaves on item [] ++ ls) same ∙ sym (append_assoc (item_leaves on item []) leaves behind) ∙ ap (λ ls. ls ++ behind) (sym (item_behind item leaves))
          | false ↦ branches_behind needed rest all leaves behind same
        ]

  -- ---- parts that are there, or none is needed

  abbrev Filled : Kind → ℕ → PlainChoices → Type 0
  Filled kind place no_choice = Unit {0}
  Filled kind place (choice alternatives rest) = (branch_seen on alternatives ≡ None → needs_statement kind place ≡ false) × Filled kind (suc place) rest

  tree_of_branch : (alternatives : PlainBranches) → branch_at on alternatives ≡ option_map (λ s. s.tree) (branch_seen on alternatives)
  tree_of_branch no_branch = refl
  tree_of_branch (branch when item rest) =
      elim (value on when) as (λ holds. (if holds then Some (item_at on item) else branch_at on rest) ≡ option_map (λ (s : Seen). s.tree) (if holds then Some (seen_at on item) else branch_seen on rest)) [
        | true ↦ refl
        | false ↦ tree_of_branch rest
      ]

  one_tree : (needed : Bool) (found : Option PlainTree) (seen : Option Seen) (others : PlainTrees) (parts : Parts)
      → found ≡ option_map (λ s. s.tree) seen → (seen ≡ None → needed ≡ false) → others ≡ trees (map (λ s. s.tree) (values parts))
      → with_part needed found others ≡ trees (map (λ s. s.tree) (values (in_front seen parts)))
  one_tree needed found None others parts is fills same =
      ap (λ f. with_part needed f others) is ∙ ap (λ b. with_part b None others) (fills refl) ∙ same ∙ ap (λ vs. trees (map (λ s. s.tree) vs)) (sym (values-none parts))
  one_tree needed found (Some seen) others parts is fills same =
      ap (λ f. with_part needed f others) is ∙ ap (more seen.tree) same

  trees_seen : (kind : Kind) (place : ℕ) (parts : PlainChoices) → Filled kind place parts → parts_at on kind place parts ≡ trees (map (λ s. s.tree) (values (parts_seen on parts)))
  trees_seen kind place no_choice filled = refl
  trees_seen kind place (choice alternatives rest) filled =
      one_tree (needs_statement kind place) (branch_at on alternatives) (branch_seen on alternatives) (parts_at on kind (suc place) rest) (parts_seen on rest)
      (tree_of_branch alternatives) filled.0 (trees_seen kind (suc place) rest filled.1)

  abbrev leaves_first : Option Seen → List Leaf → List Leaf
  leaves_first None leaves = leaves
  leaves_first (Some seen) leaves = seen.leaves ++ leaves

  leaves_of_branch : (needed : Bool) (alternatives : PlainBranches) (leaves : List Leaf) → (branch_seen on alternatives ≡ None → needed ≡ false)
      → branch_leaves on needed alternatives leaves ≡ leaves_first (branch_seen on alternatives) leaves
  leaves_of_branch true no_branch leaves fills = absurd (cc (fills refl))
  leaves_of_branch false no_branch leaves fills = refl
  leaves_of_branch needed (branch when item rest) leaves fills =
      (elim (value on when) as (λ holds. ((if holds then Some (seen_at on item) else branch_seen on rest) ≡ None → needed ≡ false) → (if holds then item_leaves on item leaves else branch_leaves on needed rest leaves) ≡ leaves_first (if holds then Some (seen_at on item) else branch_seen on rest) leaves) [
        | true ↦ λ f. item_behind item leaves
        | false ↦ λ f. leaves_of_branch needed rest leaves f
      ]) fills

  leaves_front : (seen : Option Seen) (parts : Parts) → leaves_first seen (leaves_of (values parts)) ≡ leaves_of (values (in_front seen parts))
  leaves_front None parts = ap leaves_of (sym (values-none parts))
  leaves_front (Some seen) parts = refl

  leaves_seen : (kind : Kind) (place : ℕ) (parts : PlainChoices) → Filled kind place parts → parts_leaves on kind place parts [] ≡ leaves_of (values (parts_seen on parts))
  leaves_seen kind place no_choice filled = refl
  leaves_seen kind place (choice alternatives rest) filled =
      leaves_of_branch (needs_statement kind place) alternatives (parts_leaves on kind (suc place) rest []) filled.0
      ∙ ap (leaves_first (branch_seen on alternatives)) (leaves_seen kind (suc place) rest filled.1)
      ∙ leaves_front (branch_seen on alternatives) (parts_seen on rest)

  -- ---- which parts are so

  unneeded : (kind : Kind) (place : ℕ) → is_numbered kind ≡ false → needs_statement kind place ≡ false
  unneeded If place h = absurd (cc h)
  unneeded Else place h = absurd (cc h)
  unneeded While place h = absurd (cc h)
  unneeded Do place h = absurd (cc h)
  unneeded For place h = absurd (cc h)
  unneeded _ place h = refl

  filled_unnumbered : (kind : Kind) (place : ℕ) (parts : PlainChoices) → is_numbered kind ≡ false → Filled kind place parts
  filled_unnumbered kind place no_choice h = tt
  filled_unnumbered kind place (choice alternatives rest) h = (λ missing. unneeded kind place h, filled_unnumbered kind (suc place) rest h)

  behind_row : (kind : Kind) (place : ℕ) → is_numbered kind ≡ true → length (row kind) ≤ place → needs_statement kind place ≡ false
  behind_row If place h past = grind (arith, nat_tests)
  behind_row Else place h past = grind (arith, nat_tests)
  behind_row While place h past = grind (arith, nat_tests)
  behind_row Do place h past = grind (arith, nat_tests)
  behind_row For place h past = grind (arith, nat_tests)
  behind_row _ place h past = refl

  front_of : (n : ℕ) (seen : Option Seen) (parts : Parts) → IsTrue (aligned n (in_front seen parts)) → seen ≡ None → (n ≡ 0) × IsTrue (aligned 0 parts)
  front_of zero None [] h e = (refl, refl)
  front_of (suc n) None [] h e = absurd (cc h)
  front_of zero None (second ∷ rest) h e = absurd (cc h)
  front_of (suc n) None (second ∷ rest) h e = absurd (cc h)
  front_of n (Some seen) parts h e = absurd (cc e)

  rest_of : (n : ℕ) (seen : Option Seen) (parts : Parts) → IsTrue (aligned n (in_front seen parts)) → (m : ℕ) × IsTrue (aligned m parts) × (n ≤ suc m)
  rest_of zero None [] h = (0, refl, omega arith)
  rest_of (suc n) None [] h = absurd (cc h)
  rest_of zero None (second ∷ rest) h = absurd (cc h)
  rest_of (suc n) None (second ∷ rest) h = absurd (cc h)
  rest_of zero (Some seen) parts h = absurd (cc h)
  rest_of (suc n) (Some seen) parts h = (n, h, omega arith)

  filled_numbered : (kind : Kind) (place n : ℕ) (parts : PlainChoices) → is_numbered kind ≡ true → length (row kind) ≤ place + n → IsTrue (aligned n (parts_seen on parts)) → Filled kind place parts
  filled_numbered kind place n no_choice h past a = tt
  filled_numbered kind place n (choice alternatives rest) h past a =
      let later = rest_of n (branch_seen on alternatives) (parts_seen on rest) a in (
        λ missing. behind_row kind place h (let none = (front_of n (branch_seen on alternatives) (parts_seen on rest) a missing).0 in omega (arith, past, none)),
        filled_numbered kind (suc place) later.0 rest h (let less = later.2 in omega (arith, past, less)) later.1,
      )

  filled : (kind : Kind) (parts : PlainChoices) (b : Bool) → is_numbered kind ≡ b → IsTrue (is_aligned (if_numbered b (length (row kind))) (parts_seen on parts)) → Filled kind 0 parts
  filled kind parts true is h = filled_numbered kind 0 (length (row kind)) parts is (omega arith) h
  filled kind parts false is h = filled_unnumbered kind 0 parts is

  pub whole_seen : (kind : Kind) (parts : PlainChoices) → IsTrue (parts_are_whole (Some kind) (parts_seen on parts)) → seen_at on (inner kind parts) ≡ node_seen kind (values (parts_seen on parts))
  whole_seen kind parts h =
      let f = filled kind parts (is_numbered kind) refl h in
      ap (λ t. record { tree = node kind t; leaves = parts_leaves on kind 0 parts [] }) (trees_seen kind 0 parts f)
      ∙ ap (λ ls. record { tree = node kind (trees (map (λ s. s.tree) (values (parts_seen on parts)))); leaves = ls }) (leaves_seen kind 0 parts f)

first_there : (vs : List Seen) → is_there (first_of vs) ≡ not (is_empty vs)
first_there [] = refl
first_there (first ∷ rest) = refl

made_fits : (kind : Option Kind) (parts : Parts) → IsTrue (parts_are_whole kind parts) → is_there (made kind (values parts)) ≡ parts_are_whole kind parts
made_fits None parts h = first_there (values parts)
made_fits (Some kind) parts h = sym h

pub whole_stands : (kind : Option Kind) (ended : Place) (parts : Parts) (seen : Option Seen) → IsTrue (parts_are_whole kind parts) → seen ≡ made kind (values parts)
    → arrived seen ended ≡ as_part (closed kind ended parts)
whole_stands kind ended parts seen h is =
    ap (λ s. arrived s ended) is ∙ ap (λ b. record { fits = b; fits_in = λ outer. is_there outer; stay = states.leaves; leads = arriving (made kind (values parts)) ended }) (made_fits kind parts h)
