-- What is seen of trees that are pushed one after the other.
use Rattle.std.proofs.Common.{◌≡◌, ℕ, ◌+◌, ◌<◌, ◌≤◌, Bool, true, false, ◌&&◌, List, [], ◌∷◌, ◌++◌, drop, length, get_or, refl, sym, ap, ◌∙◌, subst, append_assoc, append-nil, if◌then◌else◌}
use Rattle.std.proofs.lemmas.List.{drop_all}
use Rattle.cond_formula.specs.Conditions.{condition_of, value}
use Rattle.conditional.specs.Entries.{seen, under}
use Rattle.conditional.proofs.ListLaws.{item_of}
use Rattle.c_tree.specs.Trees.{PlainTree, plain_tree}
use Rattle.choice_trees.specs.ChoiceTrees.{plain_item, item_at}
use Rattle.choice_expansions.specs.Expansions.{expanded}
use Rattle.choice_expansions.specs.declared.rows.Expansion.{Expansion}
use Rattle.declarator_lists.specs.Entries.{entries_at}
use Rattle.declarator_lists.specs.declared.items.ListEntry.{ListEntry}
use Rattle.declarator_lists.proofs.Pushing.{nothing_left}
use Rattle.cond_parameters.specs.Readings.{is_parameter, parameters_among}

-- ---- trees under a condition

one_under : (k t : Bool) (what : PlainTree) (rest now new all : List PlainTree) → now ++ under k (if t then what ∷ rest else rest) ≡ all → new ≡ now ++ under (k && t) (what ∷ []) → new ++ under k rest ≡ all
one_under true true what rest now new all before added = ap (λ (list : List PlainTree). list ++ rest) added ∙ (append_assoc now (what ∷ []) rest ∙ before)
one_under true false what rest now new all before added = ap (λ (list : List PlainTree). list ++ rest) (added ∙ append-nil now) ∙ before
one_under false t what rest now new all before added = ap (λ (list : List PlainTree). list ++ []) (added ∙ append-nil now) ∙ before

module _ (on : ℕ → Bool) (here : Bool) (list : List Expansion) where
  abbrev pub TreesSoFar : ℕ → List PlainTree → List PlainTree → Type 0
  TreesSoFar i now all = now ++ under here (seen on (expanded (drop i list))) ≡ all

  pub one_tree :
      (i : ℕ) (x : Expansion) (now new all : List PlainTree) → i < length list → x ≡ get_or list i x → new ≡ now ++ under (here && value on (condition_of x.when)) (plain_tree x.tree ∷ [])
      → TreesSoFar i now all → TreesSoFar (i + 1) new all
  one_tree i x now new all within is added so_far =
      one_under here (value on (condition_of x.when)) (plain_tree x.tree) (seen on (expanded (drop (i + 1) list))) now new all
      (subst (λ others. now ++ under here (seen on (expanded others)) ≡ all) (item_of list x i within is) so_far) added

  pub all_trees : (i : ℕ) (now all : List PlainTree) → length list ≤ i → TreesSoFar i now all → now ≡ all
  all_trees i now all past so_far = nothing_left here now all (subst (λ others. now ++ under here (seen on (expanded others)) ≡ all) (drop_all i list past) so_far)

-- ---- parameters among entries

first_among : (what : PlainTree) (rest : List PlainTree) → parameters_among (what ∷ []) ++ parameters_among rest ≡ parameters_among (what ∷ rest)
first_among what rest = by (is_parameter what)
  where
    by : (b : Bool) → (if b then what ∷ [] else []) ++ parameters_among rest ≡ (if b then what ∷ parameters_among rest else parameters_among rest)
    by true = refl
    by false = refl

pub not_among : (t : Bool) (what : PlainTree) (now : List PlainTree) → is_parameter what ≡ false → now ≡ now ++ under t (parameters_among (what ∷ []))
not_among t what now is = sym (ap (λ (b : Bool). now ++ under t (if b then what ∷ [] else [])) is ∙ nothing t)
  where
    nothing : (t : Bool) → now ++ under t [] ≡ now
    nothing true = append-nil now
    nothing false = append-nil now

pub alone_among : (what : PlainTree) → is_parameter what ≡ true → parameters_among (what ∷ []) ≡ what ∷ []
alone_among what is = ap (λ (b : Bool). if b then what ∷ [] else []) is

entry_under : (k t : Bool) (what : PlainTree) (rest now new all : List PlainTree) → now ++ under k (parameters_among (if t then what ∷ rest else rest)) ≡ all
    → new ≡ now ++ under (k && t) (parameters_among (what ∷ [])) → new ++ under k (parameters_among rest) ≡ all
entry_under true true what rest now new all before added =
    ap (λ (list : List PlainTree). list ++ parameters_among rest) added
    ∙ (append_assoc now (parameters_among (what ∷ [])) (parameters_among rest) ∙ (ap (λ (list : List PlainTree). now ++ list) (first_among what rest) ∙ before))
entry_under true false what rest now new all before added = ap (λ (list : List PlainTree). list ++ parameters_among rest) (added ∙ append-nil now) ∙ before
entry_under false t what rest now new all before added = ap (λ (list : List PlainTree). list ++ []) (added ∙ append-nil now) ∙ before

module _ (on : ℕ → Bool) (when : Bool) (list : List ListEntry) where
  abbrev pub EntriesSoFar : ℕ → List PlainTree → Type 0
  EntriesSoFar i now = now ++ under when (parameters_among (seen on (entries_at on (drop i list)))) ≡ under when (parameters_among (seen on (entries_at on list)))

  pub one_entry :
      (i : ℕ) (x : ListEntry) (now new : List PlainTree) → i < length list → x ≡ get_or list i x
      → new ≡ now ++ under (when && value on (condition_of x.when)) (parameters_among (item_at on (plain_item x.item.now) ∷ [])) → EntriesSoFar i now → EntriesSoFar (i + 1) new
  one_entry i x now new within is added so_far =
      entry_under when (value on (condition_of x.when)) (item_at on (plain_item x.item.now)) (seen on (entries_at on (drop (i + 1) list))) now new _
      (subst (λ others. now ++ under when (parameters_among (seen on (entries_at on others))) ≡ under when (parameters_among (seen on (entries_at on list)))) (item_of list x i within is) so_far)
      added

  pub all_entries : (i : ℕ) (now : List PlainTree) → length list ≤ i → EntriesSoFar i now → now ≡ under when (parameters_among (seen on (entries_at on list)))
  all_entries i now past so_far =
      nothing_left when now _
      (subst (λ others. now ++ under when (parameters_among (seen on (entries_at on others))) ≡ under when (parameters_among (seen on (entries_at on list)))) (drop_all i list past) so_far)
