-- What is seen of entries that are added one after the other.
use Rattle.std.proofs.Common.{◌≡◌, ℕ, Bool, true, false, not, ◌&&◌, ◌||◌, List, [], ◌∷◌, ◌++◌, IsTrue, if◌then◌else◌, refl, sym, ap, ◌∙◌, append_assoc, append-nil}
use Rattle.cond_formula.specs.Conditions.{value}
use Rattle.conditional.specs.Entries.{Entry, seen, under, some_holds, Carry, Stands}
use Rattle.conditional.proofs.ListLaws.{seen-append}

-- ---- one more entry

one_seen : {P : Type 0} (t : Bool) (what : P) → (if t then what ∷ [] else []) ≡ under t (what ∷ [])
one_seen true what = refl
one_seen false what = refl

pub seen_with : {P : Type 0} (on : ℕ → Bool) (old : List (Entry P)) (x : Entry P) → seen on (old ++ x ∷ []) ≡ seen on old ++ under (value on x.when) (x.what ∷ [])
seen_with on old x = seen-append on old (x ∷ []) ∙ ap (λ list. seen on old ++ list) (one_seen (value on x.when) x.what)

-- what holds nowhere needn't be added
pub none_added : {P : Type 0} (t : Bool) (what : P) (old : List P) → t ≡ false → old ≡ old ++ under t (what ∷ [])
none_added t what old off = rw off (sym (append-nil old))

-- one entry more of those that are added
pub next_added :
    {P : Type 0} (t : Bool) (what : P) (rest old new all : List P) → old ++ (if t then what ∷ rest else rest) ≡ all → new ≡ old ++ under t (what ∷ []) → new ++ rest ≡ all
next_added {P} true what rest old new all before added = ap (λ (list : List P). list ++ rest) added ∙ (append_assoc old (what ∷ []) rest ∙ before)
next_added {P} false what rest old new all before added = ap (λ (list : List P). list ++ rest) (added ∙ append-nil old) ∙ before

-- one value where a condition is true, and then another where it isn't
pub added_by_turns :
    {P : Type 0} (left when here after : Bool) (x y z : P) (old new all : List P) → here ≡ (left && when) → after ≡ (left && not when)
    → (when ≡ true → z ≡ x) → (when ≡ false → z ≡ y)
    → old ++ under left (z ∷ []) ≡ all → new ≡ old ++ under here (x ∷ []) → new ++ under after (y ∷ []) ≡ all
added_by_turns {P} true true here after x y z old new all is_here is_after is_x is_y before added =
    ap (λ t. new ++ under t (y ∷ [])) is_after ∙ (append-nil new ∙ (added ∙ (ap (λ t. old ++ under t (x ∷ [])) is_here ∙ (ap (λ (v : P). old ++ v ∷ []) (sym (is_x refl)) ∙ before))))
added_by_turns {P} true false here after x y z old new all is_here is_after is_x is_y before added =
    ap (λ t. new ++ under t (y ∷ [])) is_after
    ∙ (ap (λ (list : List P). list ++ y ∷ []) (added ∙ (ap (λ t. old ++ under t (x ∷ [])) is_here ∙ append-nil old)) ∙ (ap (λ (v : P). old ++ v ∷ []) (sym (is_y refl)) ∙ before))
added_by_turns {P} false when here after x y z old new all is_here is_after is_x is_y before added =
    ap (λ t. new ++ under t (y ∷ [])) is_after ∙ (append-nil new ∙ (added ∙ (ap (λ t. old ++ under t (x ∷ [])) is_here ∙ before)))

-- ---- what is seen alone stands

none_carried : {P : Type 0} (on : ℕ → Bool) (v : P) (xs : List (Entry P)) → seen on xs ≡ [] → Carry on v xs
none_carried on v [] nothing = tt
none_carried {P} on v (x ∷ xs) nothing = by_test (value on x.when) (none_carried on v xs) nothing where
  by_test : (t : Bool) → (seen on xs ≡ [] → Carry on v xs) → (if t then x.what ∷ seen on xs else seen on xs) ≡ [] → (IsTrue t → x.what ≡ v) × Carry on v xs
  by_test true rest nothing = cc
  by_test false rest nothing = (λ t. cc, rest nothing)

pub stands_alone : {P : Type 0} (on : ℕ → Bool) (v : P) (xs : List (Entry P)) → seen on xs ≡ v ∷ [] → Stands on v xs
stands_alone on v [] alone = cc
stands_alone {P} on v (x ∷ xs) alone = let h = by_test (value on x.when) (stands_alone on v xs) alone in record { held = h.0; carry = (h.1, h.2) } where
  by_test :
      (t : Bool) → (seen on xs ≡ v ∷ [] → Stands on v xs) → (if t then x.what ∷ seen on xs else seen on xs) ≡ v ∷ []
      → IsTrue (t || some_holds on xs) × (IsTrue t → x.what ≡ v) × Carry on v xs
  by_test true rest alone = (refl, λ t. cc, none_carried on v xs cc)
  by_test false rest alone = ((rest alone).held, λ t. cc, (rest alone).carry)
