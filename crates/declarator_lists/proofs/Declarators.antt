-- Steps by declarators.
use Rattle.std.proofs.Common.{◌≡◌, ℕ, ◌+◌, ◌<◌, ◌≤◌, Bool, true, false, List, [], ◌∷◌, ◌++◌, drop, length, get_or, refl, sym, ◌∙◌, subst, append-nil, if◌then◌else◌}
use Rattle.std.proofs.lemmas.List.{drop_all}
use Rattle.conditional.proofs.ListLaws.{item_of}
use Rattle.conditional.specs.Entries.{seen, under}
use Rattle.choice_expansions.specs.Steps.{after_each}
use Rattle.declarator_lists.specs.Lists.{Declared, declared_in}
use Rattle.declarator_lists.specs.Entries.{entries_at}
use Rattle.declarator_lists.specs.declared.items.ListEntry.{ListEntry}

-- one value where a condition is true
pub one_under : {M A : Type 0} (next : M → A → M) (m : M) (t : Bool) (what : A) → after_each next m (under t (what ∷ [])) ≡ (if t then next m what else m)
one_under next m true what = refl
one_under next m false what = refl

module _ {M : Type 0} (on : ℕ → Bool) (next : M → Declared → M) (list : List ListEntry) where
  -- a state of which the rest makes what all make of the first one
  abbrev pub SteppedTo : M → ℕ → M → Type 0
  SteppedTo m i now = after_each next now (declared_in (seen on (entries_at on (drop i list)))) ≡ after_each next m (declared_in (seen on (entries_at on list)))

-- ---- the declarators of a list, one after the other

module _ (on : ℕ → Bool) (list : List ListEntry) where
  abbrev pub DeclaredSoFar : ℕ → List Declared → Type 0
  DeclaredSoFar i now = now ++ declared_in (seen on (entries_at on (drop i list))) ≡ declared_in (seen on (entries_at on list))

  pub one_entry :
      (i : ℕ) (x : ListEntry) (now new : List Declared) → i < length list → x ≡ get_or list i x
      → new ++ declared_in (seen on (entries_at on (drop (i + 1) list))) ≡ now ++ declared_in (seen on (entries_at on (x ∷ drop (i + 1) list)))
      → DeclaredSoFar i now → DeclaredSoFar (i + 1) new
  one_entry i x now new within is added so_far =
      added ∙ subst (λ others. now ++ declared_in (seen on (entries_at on others)) ≡ declared_in (seen on (entries_at on list))) (item_of list x i within is) so_far

  pub no_entry : (i : ℕ) (now : List Declared) → length list ≤ i → DeclaredSoFar i now → now ≡ declared_in (seen on (entries_at on list))
  no_entry i now past so_far =
      sym (append-nil now) ∙ subst (λ others. now ++ declared_in (seen on (entries_at on others)) ≡ declared_in (seen on (entries_at on list))) (drop_all i list past) so_far
