-- The parts of a node are read one after the other, where alternatives stand for them.
use Rattle.std.proofs.Common.{◌≡◌, ℕ, suc, ◌+◌, ◌<◌, ◌≤◌, Bool, true, false, List, [], ◌∷◌, drop, length, get_or, reverse, refl, sym, ap, ap₂, ◌∙◌, add-one, drop-cons}
use Rattle.std.proofs.lemmas.List.{drop_all}
use Rattle.cond_formula.specs.Conditions.{condition_of, value}
use Rattle.c_tree.specs.declared.kinds.Kind.{Kind}
use Rattle.choice_trees.specs.declared.trees.Choice.{Choice}
use Rattle.choice_trees.specs.declared.trees.Item.{Item}
use Rattle.choice_trees.specs.ChoiceTrees.{PlainChoices, plain_branches, plain_choices, needs_statement, branch_at, parts_at}
use Rattle.choice_trees.specs.Leaves.{Leaf, branch_leaves, parts_leaves}
use Rattle.scope_readings.specs.Scopes.{Scopes}
use Rattle.scope_readings.specs.Walks.{walk_parts, scope_of}
use Rattle.cond_bindings.specs.Names.{PlainNames, seen, Steps}
use Rattle.cond_scopes.specs.declared.parts.Pending.{Pending}
use Rattle.cond_scopes.specs.declared.parts.Progress.{Progress}
use Rattle.cond_scopes.specs.Progress.{showing, parts_read, perhaps_read, numbers, hidden_at, seen_so_far, MovesOn}
use Rattle.cond_scopes.proofs.Walked.{ended, walked_by_parts, part_then}

module _ (on : ℕ → Bool) (around kind : Kind) where
  -- what comes of the parts from one place on
  abbrev pub outcome : ℕ → PlainChoices → List Leaf → PlainNames → Progress → Scopes
  outcome place rest behind names p =
      ended around kind (parts_read around kind (parts_at on kind place rest) (seen_so_far on (numbers (parts_leaves on kind place rest behind)) names p))

  module _ (parts : List (Choice Item)) where
    abbrev begun : PlainNames → List Leaf → Scopes
    begun old behind =
        walk_parts around kind false (parts_at on kind 0 (plain_choices parts)) (seen on (numbers (parts_leaves on kind 0 (plain_choices parts) behind)) old)

    -- on the path what comes of the parts that are left is what was to come of all, and off it nothing is seen
    abbrev pub SoFarOn : Bool → PlainNames → ℕ → PlainNames → Progress → Type 0
    SoFarOn true old place names p = (behind : List Leaf) → outcome place (plain_choices (drop place parts)) behind names p ≡ begun old behind
    SoFarOn false old place names p = (behind : List Leaf) → seen_so_far on (numbers behind) names p ≡ record { scopes = seen on (numbers behind) old; turned = false; hidden = [] }

    pub record PartsSoFar (path : Bool) (old : PlainNames) (place : ℕ) (names : PlainNames) (p : Progress) : Type 0 where
      pub is : SoFarOn path old place names p

    starts_on :
        (path : Bool) (old : PlainNames) (p : Progress) → ((behind : List Leaf) → seen_so_far on (numbers behind) old p ≡ record { scopes = seen on (numbers behind) old; turned = false; hidden = [] })
        → SoFarOn path old 0 old p
    starts_on true old p new = λ behind.
        ap (λ s. ended around kind (parts_read around kind (parts_at on kind 0 (plain_choices parts)) s)) (new (parts_leaves on kind 0 (plain_choices parts) behind)) ∙
        sym (walked_by_parts around kind (parts_at on kind 0 (plain_choices parts)) (record { scopes = seen on (numbers (parts_leaves on kind 0 (plain_choices parts) behind)) old; turned = false; hidden = [] }))
    starts_on false old p new = new

    pub starts :
        (path : Bool) (old : PlainNames) (p : Progress) → value on (condition_of p.turned) ≡ false → p.pending.items ≡ []
        → PartsSoFar path old 0 old p
    starts path old p unturned empty = record {
      is = starts_on path old p (λ behind.
          ap₂ (λ (t : Bool) (items : List Pending). record { scopes = seen on (numbers behind) old; turned = t; hidden = hidden_at on (reverse items) }) unturned empty);
    }

    -- one part more
    module _ (old : PlainNames) (place : ℕ) (part : Choice Item) (rest : List (Choice Item)) (names : PlainNames) (p : Progress) (new_names : PlainNames) (q : Progress) where
      next_on :
          (path : Bool) → drop place parts ≡ part ∷ rest → drop (suc place) parts ≡ rest
          → ((behind : List Leaf) (needed : Bool) → MovesOn on path (numbers (branch_leaves on needed (plain_branches part.branches.items) behind))
          (perhaps_read around kind needed (branch_at on (plain_branches part.branches.items))) (numbers behind) names p new_names q)
          → SoFarOn path old place names p → SoFarOn path old (suc place) new_names q
      next_on true here there reads before = λ behind.
          let left : List Leaf = parts_leaves on kind (suc place) (plain_choices rest) behind in
          ap (λ list. outcome (suc place) (plain_choices list) behind new_names q) there ∙
          (ap (λ s. ended around kind (parts_read around kind (parts_at on kind (suc place) (plain_choices rest)) s)) (reads left (needs_statement kind place)) ∙
          (ap (ended around kind) (sym (part_then around kind (needs_statement kind place) (branch_at on (plain_branches part.branches.items)) (parts_at on kind (suc place) (plain_choices rest))
          (seen_so_far on (numbers (branch_leaves on (needs_statement kind place) (plain_branches part.branches.items) left)) names p))) ∙
          (ap (λ list. outcome place (plain_choices list) behind names p) (sym here) ∙ before behind)))
      next_on false here there reads before = λ behind. reads behind false ∙ before behind

    item_of : (place : ℕ) (part : Choice Item) → place < length parts → part ≡ get_or parts place part → drop place parts ≡ part ∷ drop (suc place) parts
    item_of place part within is = drop-cons parts place part within ∙ ap (λ x. x ∷ drop (suc place) parts) (sym is)

    pub next :
        (path : Bool) (old : PlainNames) (place : ℕ) (part : Choice Item) (names : PlainNames) (p : Progress) (new_names : PlainNames) (q : Progress)
        → place < length parts → part ≡ get_or parts place part
        → ((behind : List Leaf) (needed : Bool) → MovesOn on path (numbers (branch_leaves on needed (plain_branches part.branches.items) behind))
        (perhaps_read around kind needed (branch_at on (plain_branches part.branches.items))) (numbers behind) names p new_names q)
        → PartsSoFar path old place names p → PartsSoFar path old (place + 1) new_names q
    next path old place part names p new_names q within is reads before =
        let further : PartsSoFar path old (suc place) new_names q = record {
          is = next_on old place part (drop (suc place) parts) names p new_names q path (item_of place part within is) refl reads before.is;
        } in
        rw add-one further

    -- at the end
    finished_on :
        (path : Bool) (old : PlainNames) (place : ℕ) (names : PlainNames) (p : Progress) (last : PlainNames) → length parts ≤ place
        → ((coming : List ℕ) → seen on coming last ≡ showing (scope_of around) (hidden_at on (reverse p.pending.items)) (seen on coming names))
        → SoFarOn path old place names p → (behind : List Leaf)
        → Steps on path (numbers (parts_leaves on kind 0 (plain_choices parts) behind)) (walk_parts around kind false (parts_at on kind 0 (plain_choices parts))) (numbers behind) old last
    finished_on true old place names p last past shown before behind =
        shown (numbers behind) ∙ (ap (λ list. outcome place (plain_choices list) behind names p) (sym (drop_all place parts past)) ∙ before behind)
    finished_on false old place names p last past shown before behind =
        shown (numbers behind) ∙ ap (ended around kind) (before behind)

    pub finished :
        (path : Bool) (old : PlainNames) (place : ℕ) (names : PlainNames) (p : Progress) (last : PlainNames) → length parts ≤ place
        → ((coming : List ℕ) → seen on coming last ≡ showing (scope_of around) (hidden_at on (reverse p.pending.items)) (seen on coming names))
        → PartsSoFar path old place names p → (behind : List Leaf)
        → Steps on path (numbers (parts_leaves on kind 0 (plain_choices parts) behind)) (walk_parts around kind false (parts_at on kind 0 (plain_choices parts))) (numbers behind) old last
    finished path old place names p last past shown before = finished_on path old place names p last past shown before.is
