-- The parts of a node are walked through one after the other.
use Rattle.std.proofs.Common.{◌≡◌, ℕ, suc, ◌+◌, ◌<◌, ◌≤◌, drop, length, get_or, add-one, drop-cons, Bool, true, false, ◌||◌, List, ◌∷◌, ◌++◌, Option, Some, None, IsTrue, refl, sym, ap, ◌∙◌}
use Rattle.std.proofs.Math.Bool.{or-false}
use Rattle.std.proofs.lemmas.List.{drop_all}
use Rattle.c_tree.specs.declared.kinds.Kind.{Kind}
use Rattle.c_tree.specs.Trees.{PlainTree, PlainTrees}
use Rattle.choice_trees.specs.declared.trees.Choice.{Choice}
use Rattle.choice_trees.specs.declared.trees.Item.{Item}
use Rattle.choice_trees.specs.ChoiceTrees.{PlainChoices, plain_branches, plain_choices, needs_statement, with_part, branch_at, parts_at}
use Rattle.choice_trees.specs.Leaves.{Leaf, branch_leaves, parts_leaves}
use Rattle.expression_types.specs.Known.{Known}
use Rattle.selections.specs.Selections.{selected_in_parts}
use Rattle.member_uses.specs.Uses.{Use, using}
use Rattle.cond_selections.specs.Selected.{identifiers}
use Rattle.cond_selections.specs.Progress.{Logs, turns_if_any, selected_if_any}

module _ (known : Known) (owner : Option ℕ) where
  -- a part and what stands behind it
  part_told : (needed turned behind : Bool) (part : Option PlainTree) (trees : PlainTrees) (told : List (Option ℕ)) → behind ≡ (turned || turns_if_any part)
      → selected_if_any known owner turned part (selected_in_parts known owner behind trees told) ≡ selected_in_parts known owner turned (with_part needed part trees) told
  part_told true turned behind (Some tree) trees told is = ap (λ b. selected_if_any known owner turned (Some tree) (selected_in_parts known owner b trees told)) is
  part_told false turned behind (Some tree) trees told is = ap (λ b. selected_if_any known owner turned (Some tree) (selected_in_parts known owner b trees told)) is
  part_told true turned behind None trees told is = ap (λ b. selected_in_parts known owner b trees told) is
  part_told false turned behind None trees told is = ap (λ b. selected_in_parts known owner b trees told) (is ∙ or-false turned)

  module _ (on : ℕ → Bool) (kind : Kind) (parts : List (Choice Item)) (path : Bool) (old : List Use) where
    -- what is noted of the parts from one place on, behind what has been noted
    abbrev outcome : ℕ → PlainChoices → Bool → List Use → List Leaf → List (Option ℕ) → List Use
    outcome place rest turned now leaves told =
        now ++ using (identifiers (parts_leaves on kind place rest leaves)) (selected_in_parts known owner turned (parts_at on kind place rest) told)

    pub record PartsSoFar (place : ℕ) (turned : Bool) (now : List Use) : Type 0 where
      pub off : path ≡ false → now ≡ old
      pub read : IsTrue path → (leaves : List Leaf) (told : List (Option ℕ))
          → outcome place (plain_choices (drop place parts)) turned now leaves told ≡ outcome 0 (plain_choices parts) false old leaves told

    pub parts_start : (turned : Bool) → turned ≡ false → PartsSoFar 0 turned old
    parts_start turned is = record { off = λ h. refl; read = λ h leaves told. ap (λ t. outcome 0 (plain_choices parts) t old leaves told) is }

    one_part : (place : ℕ) (part : Choice Item) (turned behind : Bool) (now new : List Use) → drop place parts ≡ part ∷ drop (suc place) parts
        → behind ≡ (turned || turns_if_any (branch_at on (plain_branches part.branches.items)))
        → Logs path (branch_leaves on (needs_statement kind place) (plain_branches part.branches.items)) (selected_if_any known owner turned (branch_at on (plain_branches part.branches.items))) now new
        → PartsSoFar place turned now → PartsSoFar (suc place) behind new
    one_part place part turned behind now new opened is logs so_far = record {
      off = λ h. logs.elsewhere h ∙ so_far.off h;
      read = λ h leaves told.
          let rest : PlainChoices = plain_choices (drop (suc place) parts) in
          let chosen : Option PlainTree = branch_at on (plain_branches part.branches.items) in
          logs.here h (parts_leaves on kind (suc place) rest leaves) (selected_in_parts known owner behind (parts_at on kind (suc place) rest) told)
          ∙ (ap (λ l. now ++ using (identifiers (branch_leaves on (needs_statement kind place) (plain_branches part.branches.items) (parts_leaves on kind (suc place) rest leaves))) l)
          (part_told (needs_statement kind place) turned behind chosen (parts_at on kind (suc place) rest) told is)
          ∙ (ap (λ list. outcome place (plain_choices list) turned now leaves told) (sym opened)
          ∙ so_far.read h leaves told));
    }

    pub parts_next : (place : ℕ) (part : Choice Item) (turned behind : Bool) (now new : List Use) → place < length parts → part ≡ get_or parts place part
        → behind ≡ (turned || turns_if_any (branch_at on (plain_branches part.branches.items)))
        → ((needed : Bool) → Logs path (branch_leaves on needed (plain_branches part.branches.items)) (selected_if_any known owner turned (branch_at on (plain_branches part.branches.items))) now new)
        → PartsSoFar place turned now → PartsSoFar (place + 1) behind new
    parts_next place part turned behind now new within same is logs so_far =
        let further : PartsSoFar (suc place) behind new =
        one_part place part turned behind now new (drop-cons parts place part within ∙ ap (λ (x : Choice Item). x ∷ drop (suc place) parts) (sym same)) is (logs (needs_statement kind place)) so_far in
        rw add-one further

    pub parts_end : (place : ℕ) (turned : Bool) (now : List Use) → length parts ≤ place → PartsSoFar place turned now
        → Logs path (parts_leaves on kind 0 (plain_choices parts)) (selected_in_parts known owner false (parts_at on kind 0 (plain_choices parts))) old now
    parts_end place turned now past so_far = record {
      here = λ h leaves told. ap (λ list. outcome place (plain_choices list) turned now leaves told) (sym (drop_all place parts past)) ∙ so_far.read h leaves told;
      elsewhere = so_far.off;
    }
