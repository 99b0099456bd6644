-- What is seen of alternatives depends on what is seen of them as a list.
use Rattle.std.proofs.Common.{◌≡◌, ℕ, suc, ◌+◌, ◌<◌, ◌≤◌, if◌then◌else◌, Bool, true, false, ◌||◌, List, [], ◌∷◌, ◌++◌, append-nil, append_assoc, Option, Some, None, IsTrue, drop, length, get_or, refl, sym, ap, ◌∙◌, add-one, drop-cons}
use Rattle.std.specs.Prelude.{⊤}
use Rattle.std.proofs.lemmas.List.{drop_all}
use Rattle.cond_formula.specs.Conditions.{value, condition_of}
use Rattle.conditional.specs.declared.entries.Guarded.{Guarded}
use Rattle.conditional.specs.Entries.{Entry, entries_of, seen, under, some_holds, Carry, Sees}

-- the item at an index, and what is behind it
pub item_of : {T : Type 0} (xs : List T) (x : T) (i : ℕ) → i < length xs → x ≡ get_or xs i x → drop i xs ≡ x ∷ drop (i + 1) xs
item_of xs x i within is = rw (add-one, drop-cons xs i x within) (ap (λ (y : _). y ∷ drop (suc i) xs) (sym is))

by_test : {P : Type 0} (t : Bool) (what : P) (rest so_far new all : List P) → so_far ++ (if t then what ∷ rest else rest) ≡ all → new ≡ so_far ++ under t (what ∷ []) → new ++ rest ≡ all
by_test {P} true what rest so_far new all before pushed = ap (λ (l : List P). l ++ rest) pushed ∙ append_assoc so_far (what ∷ []) rest ∙ before
by_test {P} false what rest so_far new all before pushed = ap (λ (l : List P). l ++ rest) (pushed ∙ append-nil so_far) ∙ before

-- one step through a list whose entries are pushed
pub pushed_step : {T P : Type 0} (form : T → P) (on : ℕ → Bool) (xs : List (Guarded T)) (x : Guarded T) (i : ℕ) (so_far new all : List P) →
    i < length xs → x ≡ get_or xs i x → so_far ++ seen on (entries_of form (drop i xs)) ≡ all → new ≡ so_far ++ under (value on (condition_of x.when)) (form x.what ∷ []) →
    new ++ seen on (entries_of form (drop (i + 1) xs)) ≡ all
pushed_step form on xs x i so_far new all within is before pushed =
    let e = item_of xs x i within is in
    let before' = rw e at before in
    by_test (value on (condition_of x.when)) (form x.what) (seen on (entries_of form (drop (i + 1) xs))) so_far new all before' pushed

pub pushed_end : {T P : Type 0} (form : T → P) (on : ℕ → Bool) (xs : List (Guarded T)) (i : ℕ) (so_far all : List P) → length xs ≤ i →
    so_far ++ seen on (entries_of form (drop i xs)) ≡ all → so_far ≡ all
pushed_end form on xs i so_far all past is =
    let e = drop_all i xs past in
    let is' = rw e at is in
    sym (append-nil so_far) ∙ is'

are_some : {P : Type 0} → List P → Bool
are_some [] = false
are_some (x ∷ xs) = true

AllAre : {P : Type 0} → P → List P → Type 0
AllAre v [] = ⊤
AllAre v (x ∷ xs) = (x ≡ v) × AllAre v xs

some_seen : {P : Type 0} (on : ℕ → Bool) (xs : List (Entry P)) → some_holds on xs ≡ are_some (seen on xs)
unfolding are_some
some_seen on [] = refl
some_seen on (x ∷ xs) = tested (value on x.when) (some_seen on xs) where
  tested : (t : Bool) → some_holds on xs ≡ are_some (seen on xs) → (t || some_holds on xs) ≡ are_some (if t then x.what ∷ seen on xs else seen on xs)
  tested true rest = refl
  tested false rest = rest

carry_seen : {P : Type 0} (on : ℕ → Bool) (v : P) (xs : List (Entry P)) → Carry on v xs → AllAre v (seen on xs)
unfolding AllAre
carry_seen on v [] carry = tt
carry_seen on v (x ∷ xs) carry = tested (value on x.when) carry.0 (carry_seen on v xs carry.1) where
  tested : (t : Bool) → (IsTrue t → x.what ≡ v) → AllAre v (seen on xs) → AllAre v (if t then x.what ∷ seen on xs else seen on xs)
  tested true is rest = (is refl, rest)
  tested false is rest = rest

seen_carry : {P : Type 0} (on : ℕ → Bool) (v : P) (xs : List (Entry P)) → AllAre v (seen on xs) → Carry on v xs
unfolding AllAre
seen_carry on v [] all = tt
seen_carry on v (x ∷ xs) all = tested (value on x.when) (seen_carry on v xs) all where
  tested : (t : Bool) → (AllAre v (seen on xs) → Carry on v xs) → AllAre v (if t then x.what ∷ seen on xs else seen on xs) → (IsTrue t → x.what ≡ v) × Carry on v xs
  tested true later these = (λ h. these.0, later these.1)
  tested false later these = (λ h. cc, later these)

pub sees_alike : {P : Type 0} (on : ℕ → Bool) (xs ys : List (Entry P)) → seen on ys ≡ seen on xs → (o : Option P) → Sees on o xs → Sees on o ys
sees_alike on xs ys same None sees = some_seen on ys ∙ ap are_some same ∙ sym (some_seen on xs) ∙ sees
sees_alike on xs ys same (Some v) sees = record {
  held = rw (some_seen on ys ∙ ap are_some same ∙ sym (some_seen on xs)) sees.held;
  carry = seen_carry on v ys (rw same (carry_seen on v xs sees.carry));
}

pub never_pushed : {P : Type 0} (t : Bool) (xs ys : List P) → false ≡ t → xs ≡ xs ++ under t ys
never_pushed true xs ys off = cc
never_pushed false xs ys off = sym (append-nil xs)
