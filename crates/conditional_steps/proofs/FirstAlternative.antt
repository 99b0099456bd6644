-- One of the alternatives is taken, though several may hold that agree.
use Rattle.std.proofs.Common.{◌≡◌, ℕ, ◌+◌, ◌<◌, ◌≤◌, drop, length, get_or, map, Bool, true, false, not, ◌&&◌, ◌||◌, List, [], ◌∷◌, IsTrue, refl, ap, if◌then◌else◌}
use Rattle.std.proofs.lemmas.List.{drop_all}
use Rattle.cond_formula.specs.Conditions.{value}
use Rattle.conditional.proofs.ListLaws.{item_of}
use Rattle.conditional.specs.Entries.{Entry, seen, under, some_holds, Stands}

-- the first one alone
abbrev pub only_first : {A : Type 0} → List A → List A
only_first [] = []
only_first (x ∷ others) = x ∷ []

pub only_one : {A : Type 0} (on : ℕ → Bool) (v : A) (entries : List (Entry A)) → Stands on v entries → only_first (seen on entries) ≡ v ∷ []
only_one on v [] stands = absurd (cc_of stands.held)
  where
    cc_of : IsTrue false → ⊥
    cc_of h = cc
only_one {A} on v (e ∷ entries) stands = by (value on e.when) stands.held stands.carry.0 (λ held. only_one on v entries (record { held = held; carry = stands.carry.1 }))
  where
    by : (b : Bool) → IsTrue (b || some_holds on entries) → (IsTrue b → e.what ≡ v) → (IsTrue (some_holds on entries) → only_first (seen on entries) ≡ v ∷ [])
        → only_first (if b then e.what ∷ seen on entries else seen on entries) ≡ v ∷ []
    by true held same later = ap (λ (x : A). x ∷ []) (same refl)
    by false held same later = later held

-- what is ahead where a condition is left, by whether the next alternative holds
pub one_turn :
    {A : Type 0} (left when here after : Bool) (what : A) (rest : List A) → here ≡ (left && when) → after ≡ (left && not when)
    → under left (only_first (if when then what ∷ rest else rest)) ≡ (if here then what ∷ under after (only_first rest) else under after (only_first rest))
one_turn {A} true true here after what rest is_here is_after = rw (is_here, is_after) refl
one_turn {A} true false here after what rest is_here is_after = rw (is_here, is_after) refl
one_turn {A} false when here after what rest is_here is_after = rw (is_here, is_after) refl

pub none_left : {A : Type 0} (left : Bool) → under {P = A} left [] ≡ []
none_left true = refl
none_left false = refl

-- ---- the rest of a list

-- the first of the rest of a list of entries, if it holds
pub next_seen : {T P : Type 0} (on : ℕ → Bool) (entry : T → Entry P) (list : List T) (i : ℕ) (x : T) → i < length list → x ≡ get_or list i x
    → seen on (map entry (drop i list)) ≡ (if value on (entry x).when then (entry x).what ∷ seen on (map entry (drop (i + 1) list)) else seen on (map entry (drop (i + 1) list)))
next_seen on entry list i x within is = ap (λ others. seen on (map entry others)) (item_of list x i within is)

pub none_seen : {T P : Type 0} (on : ℕ → Bool) (entry : T → Entry P) (list : List T) (i : ℕ) → length list ≤ i → seen on (map entry (drop i list)) ≡ []
none_seen on entry list i past = ap (λ others. seen on (map entry others)) (drop_all i list past)
