-- Items that complete structs, one after the other.
use Rattle.std.proofs.Common.{◌≡◌, ℕ, ◌+◌, ◌<◌, ◌≤◌, Bool, true, false, ◌&&◌, ◌||◌, List, ◌∷◌, drop, length, get_or, refl, sym, ap, ◌∙◌, subst, if◌then◌else◌}
use Rattle.std.proofs.lemmas.List.{drop_all}
use Rattle.cond_formula.specs.Conditions.{condition_of, value}
use Rattle.conditional.specs.Entries.{seen}
use Rattle.conditional.proofs.ListLaws.{item_of}
use Rattle.c_tree.specs.Trees.{PlainTree, trees}
use Rattle.choice_trees.specs.ChoiceTrees.{plain_item, item_at}
use Rattle.core_meaning.specs.UnitNames.{completes, is_completed_in}
use Rattle.declarator_lists.specs.Entries.{entries_at}
use Rattle.declarator_lists.specs.declared.items.ListEntry.{ListEntry}

module _ (tag : List ℕ) where
  by_test : (t : Bool) (what : PlainTree) (rest : List PlainTree) (now : Bool)
      → ((now || (t && completes tag what)) || is_completed_in tag (trees rest)) ≡ (now || is_completed_in tag (trees (if t then what ∷ rest else rest)))
  by_test t what rest true = refl
  by_test true what rest false = refl
  by_test false what rest false = refl

  or_nothing : (now : Bool) → (now || false) ≡ now
  or_nothing true = refl
  or_nothing false = refl

  module _ (on : ℕ → Bool) (list : List ListEntry) where
    abbrev pub CompletedSoFar : ℕ → Bool → Type 0
    CompletedSoFar i now = (now || is_completed_in tag (trees (seen on (entries_at on (drop i list))))) ≡ is_completed_in tag (trees (seen on (entries_at on list)))

    pub one_item :
        (i : ℕ) (x : ListEntry) (now new : Bool) → i < length list → x ≡ get_or list i x
        → new ≡ (now || (value on (condition_of x.when) && completes tag (item_at on (plain_item x.item.now))))
        → CompletedSoFar i now → CompletedSoFar (i + 1) new
    one_item i x now new within is found so_far =
        ap (λ (n : Bool). n || is_completed_in tag (trees (seen on (entries_at on (drop (i + 1) list))))) found
        ∙ (by_test (value on (condition_of x.when)) (item_at on (plain_item x.item.now)) (seen on (entries_at on (drop (i + 1) list))) now
        ∙ subst (λ others. (now || is_completed_in tag (trees (seen on (entries_at on others)))) ≡ is_completed_in tag (trees (seen on (entries_at on list)))) (item_of list x i within is) so_far)

    pub no_item : (i : ℕ) (now : Bool) → length list ≤ i → CompletedSoFar i now → now ≡ is_completed_in tag (trees (seen on (entries_at on list)))
    no_item i now past so_far =
        sym (or_nothing now)
        ∙ subst (λ others. (now || is_completed_in tag (trees (seen on (entries_at on others)))) ≡ is_completed_in tag (trees (seen on (entries_at on list)))) (drop_all i list past) so_far
