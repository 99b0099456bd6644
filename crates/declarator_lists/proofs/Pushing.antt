-- What is seen of lists to which entries are pushed one after the other.
use Rattle.std.proofs.Common.{◌≡◌, ℕ, ◌+◌, ◌<◌, ◌≤◌, Bool, true, false, not, ◌&&◌, List, [], ◌∷◌, ◌++◌, map, drop, length, get_or, refl, sym, ap, ◌∙◌, subst, append-nil, if◌then◌else◌}
use Rattle.std.proofs.lemmas.List.{drop_all, map-append}
use Rattle.cond_formula.specs.Conditions.{value}
use Rattle.conditional.specs.Entries.{Entry, seen, under}
use Rattle.conditional.proofs.ListLaws.{item_of}
use Rattle.choice_variants.proofs.Adding.{seen_with, next_added}

-- one entry more
pub pushed :
    {T P : Type 0} (on : ℕ → Bool) (entry : T → Entry P) (x : T) (old new : List T) → new ≡ old ++ x ∷ []
    → seen on (map entry new) ≡ seen on (map entry old) ++ under (value on (entry x).when) ((entry x).what ∷ [])
pushed on entry x old new is = rw (is, map-append entry old (x ∷ [])) (seen_with on (map entry old) (entry x))

-- some values where a condition is true, and then others where it isn't
pub in_turns :
    {P : Type 0} (left when here after : Bool) (x y z old new all : List P) → here ≡ (left && when) → after ≡ (left && not when)
    → (when ≡ true → z ≡ x) → (when ≡ false → z ≡ y)
    → old ++ under left z ≡ all → new ≡ old ++ under here x → new ++ under after y ≡ all
in_turns {P} true true here after x y z old new all is_here is_after is_x is_y before added =
    ap (λ t. new ++ under t y) is_after ∙ (append-nil new ∙ (added ∙ (ap (λ t. old ++ under t x) is_here ∙ (ap (λ (v : List P). old ++ v) (sym (is_x refl)) ∙ before))))
in_turns {P} true false here after x y z old new all is_here is_after is_x is_y before added =
    ap (λ t. new ++ under t y) is_after
    ∙ (ap (λ (list : List P). list ++ y) (added ∙ (ap (λ t. old ++ under t x) is_here ∙ append-nil old)) ∙ (ap (λ (v : List P). old ++ v) (sym (is_y refl)) ∙ before))
in_turns {P} false when here after x y z old new all is_here is_after is_x is_y before added =
    ap (λ t. new ++ under t y) is_after ∙ (append-nil new ∙ (added ∙ (ap (λ t. old ++ under t x) is_here ∙ before)))

-- nothing more to push
pub nothing_left : {P : Type 0} (t : Bool) (now all : List P) → now ++ under t [] ≡ all → now ≡ all
nothing_left true now all h = sym (append-nil now) ∙ h
nothing_left false now all h = sym (append-nil now) ∙ h

-- ---- an entry for each that is seen of others

module _ {T A P : Type 0} (on : ℕ → Bool) (entry : T → Entry A) (gives : A → P) (list : List T) where
  abbrev pub SoFar : List P → ℕ → List P → Type 0
  SoFar old i now = now ++ map gives (seen on (map entry (drop i list))) ≡ old ++ map gives (seen on (map entry list))

  by_test : (t : Bool) (what : A) (rest : List A) → map gives (if t then what ∷ rest else rest) ≡ (if t then gives what ∷ map gives rest else map gives rest)
  by_test true what rest = refl
  by_test false what rest = refl

  pub one_given :
      (old now new : List P) (i : ℕ) (x : T) → i < length list → x ≡ get_or list i x
      → new ≡ now ++ under (value on (entry x).when) (gives (entry x).what ∷ []) → SoFar old i now → SoFar old (i + 1) new
  one_given old now new i x within is added so_far =
      next_added (value on (entry x).when) (gives (entry x).what) (map gives (seen on (map entry (drop (i + 1) list)))) now new (old ++ map gives (seen on (map entry list)))
      (ap (λ (l : List P). now ++ l) (sym (by_test (value on (entry x).when) (entry x).what (seen on (map entry (drop (i + 1) list)))))
      ∙ subst (λ others. now ++ map gives (seen on (map entry others)) ≡ old ++ map gives (seen on (map entry list))) (item_of list x i within is) so_far) added

  pub all_given : (old now : List P) (i : ℕ) → length list ≤ i → SoFar old i now → now ≡ old ++ map gives (seen on (map entry list))
  all_given old now i past so_far =
      sym (append-nil now) ∙ subst (λ others. now ++ map gives (seen on (map entry others)) ≡ old ++ map gives (seen on (map entry list))) (drop_all i list past) so_far

-- where a condition is true, what is given for the one value there
pub given_under : {A P : Type 0} (gives : A → P) (t : Bool) (what : A) → map gives (under t (what ∷ [])) ≡ under t (gives what ∷ [])
given_under gives true what = refl
given_under gives false what = refl
