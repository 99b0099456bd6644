-- What is seen of conditional values.
use Rattle.std.proofs.Common.{◌≡◌, ℕ, zero, suc, ◌+◌, ◌<◌, ◌≤◌, if◌then◌else◌, Bool, true, false, not, ◌&&◌, ◌||◌, List, [], ◌∷◌, ◌++◌, Option, Some, None, IsTrue, drop, length, get_or, refl, sym, ap, ◌∙◌}
use Rattle.std.specs.Prelude.{slice_get, remove, option_map}
use Rattle.std.proofs.lemmas.List.{drop_all, map-append}
use Rattle.std.proofs.Math.Bool.{or_assoc, or_comm, or-false}
use Rattle.cond_formula.specs.Conditions.{Condition, Always, value, condition_of}
use Rattle.conditional.specs.declared.entries.Guarded.{Guarded}
use Rattle.conditional.specs.Entries.{Entry, entry_of, entries_of, seen, first, some_holds, Carry, Stands, Sees, Places, PlacesUnder}
use Rattle.conditional.proofs.ListLaws.{item_of, first_at}

some_holds-append : {P : Type 0} (on : ℕ → Bool) (xs ys : List (Entry P)) → some_holds on (xs ++ ys) ≡ (some_holds on xs || some_holds on ys)
some_holds-append on [] ys = refl
some_holds-append on (x ∷ xs) ys =
    ap (λ (rest : Bool). value on x.when || rest) (some_holds-append on xs ys)
    ∙ sym (or_assoc (value on x.when) (some_holds on xs) (some_holds on ys))

Carry-append : {P : Type 0} (on : ℕ → Bool) (v : P) (xs ys : List (Entry P)) → Carry on v xs → Carry on v ys → Carry on v (xs ++ ys)
Carry-append on v [] ys left right = right
Carry-append on v (x ∷ xs) ys left right = (left.0, Carry-append on v xs ys left.1 right)

-- ---- one more alternative

-- the rest, after one alternative is taken out
held_without : {T P : Type 0} (form : T → P) (on : ℕ → Bool) (xs : List (Guarded T)) (i : ℕ) (a : Guarded T) → slice_get xs i ≡ Some a →
    some_holds on (entries_of form xs) ≡ (some_holds on (entries_of form (remove xs i)) || value on (condition_of a.when))
held_without form on [] i a is = cc
held_without form on (x ∷ xs) zero a is =
    let e : x ≡ a = cc in
    rw e (or_comm (value on (condition_of a.when)) (some_holds on (entries_of form xs)))
held_without form on (x ∷ xs) (suc i) a is =
    ap (λ (rest : Bool). value on (condition_of x.when) || rest) (held_without form on xs i a is)
    ∙ sym (or_assoc (value on (condition_of x.when)) (some_holds on (entries_of form (remove xs i))) (value on (condition_of a.when)))

carry_without : {T P : Type 0} (form : T → P) (on : ℕ → Bool) (w : P) (xs : List (Guarded T)) (i : ℕ) → Carry on w (entries_of form xs) → Carry on w (entries_of form (remove xs i))
carry_without form on w [] zero carry = carry
carry_without form on w [] (suc i) carry = carry
carry_without form on w (x ∷ xs) zero carry = carry.1
carry_without form on w (x ∷ xs) (suc i) carry = (carry.0, carry_without form on w xs i carry.1)

carry_at : {T P : Type 0} (form : T → P) (on : ℕ → Bool) (w : P) (xs : List (Guarded T)) (i : ℕ) (a : Guarded T) → slice_get xs i ≡ Some a →
    Carry on w (entries_of form xs) → IsTrue (value on (condition_of a.when)) → form a.what ≡ w
carry_at form on w [] i a is carry = cc
carry_at form on w (x ∷ xs) zero a is carry = let e : x ≡ a = cc in rw (← e) carry.0
carry_at form on w (x ∷ xs) (suc i) a is carry = carry_at form on w xs i a is carry.1

from_either : {A : Type 0} (s t : Bool) → IsTrue (s || t) → (IsTrue s → A) → (IsTrue t → A) → A
from_either true t is left right = left refl
from_either false t is left right = right is

pub placed_new : {T P : Type 0} (form : T → P) (on : ℕ → Bool) (x : Guarded T) (old new : List (Guarded T)) → new ≡ old ++ x ∷ [] →
    Places on (condition_of x.when) (form x.what) (entries_of form old) (entries_of form new)
placed_new form on x old new is = rw (is, map-append (entry_of form) old (x ∷ [])) (record {
  held = some_holds-append on (entries_of form old) (entries_of form (x ∷ [])) ∙ ap (λ (k : Bool). some_holds on (entries_of form old) || k) (or-false (value on (condition_of x.when)));
  carry = λ w carry also. Carry-append on w (entries_of form old) (entries_of form (x ∷ [])) carry (also, tt);
})

pub placed_joined : {T P : Type 0} (form : T → P) (on : ℕ → Bool) (v : P) (a x : Guarded T) (when : Condition) (old new : List (Guarded T)) (i : ℕ) →
    slice_get old i ≡ Some a → v ≡ form a.what → form x.what ≡ form a.what → value on (condition_of x.when) ≡ (value on (condition_of a.when) || value on when) →
    new ≡ remove old i ++ x ∷ [] → Places on when v (entries_of form old) (entries_of form new)
placed_joined form on v a x when old new i found is_v is_x either is =
    let pushed = placed_new form on x (remove old i) new is in
    record {
      held =
          pushed.held
          ∙ ap (λ (k : Bool). some_holds on (entries_of form (remove old i)) || k) either
          ∙ sym (or_assoc (some_holds on (entries_of form (remove old i))) (value on (condition_of a.when)) (value on when))
          ∙ ap (λ (k : Bool). k || value on when) (sym (held_without form on old i a found));
      carry = λ w carry also.
          pushed.carry w (carry_without form on w old i carry)
          (λ t. is_x ∙ from_either (value on (condition_of a.when)) (value on when) (rw either at t)
          (λ s. carry_at form on w old i a found carry s) (λ s. sym is_v ∙ also s));
    }

-- an alternative that stands where no other and no refusal does
pub stands_elsewhere : {T P : Type 0} (form : T → P) (on : ℕ → Bool) (v : P) (a x : Guarded T) (others refusals : Bool) (old new : List (Guarded T)) (i : ℕ) →
    slice_get old i ≡ Some a → x.what ≡ a.what → others ≡ some_holds on (entries_of form (remove old i)) → value on (condition_of x.when) ≡ not (others || refusals) → refusals ≡ false →
    new ≡ remove old i ++ x ∷ [] → Stands on v (entries_of form old) → Stands on v (entries_of form new)
stands_elsewhere form on v a x others refusals old new i found same is_others elsewhere unrefused is stands =
    let pushed = placed_new form on x (remove old i) new is in
    let held = held_without form on old i a found in
    record {
      held = rw (pushed.held, ← is_others, elsewhere, unrefused) (some_or_none others);
      carry = pushed.carry v (carry_without form on v old i stands.carry)
          (λ t. ap form same ∙ carry_at form on v old i a found stands.carry (last_one others (value on (condition_of a.when)) (rw (is_others, ← held) stands.held) (rw (← elsewhere) t)));
    } where
      some_or_none : (others : Bool) → IsTrue (others || not (others || false))
      some_or_none true = refl
      some_or_none false = refl

      last_one : (others own : Bool) → IsTrue (others || own) → IsTrue (not (others || refusals)) → IsTrue own
      last_one true own held t = cc
      last_one false own held t = held

-- ---- what is seen

pub none_carry : {P : Type 0} (on : ℕ → Bool) (v : P) (xs : List (Entry P)) → some_holds on xs ≡ false → Carry on v xs
none_carry on v [] none = tt
none_carry on v (x ∷ xs) none = by_test (value on x.when) none (none_carry on v xs) where
  by_test : (t : Bool) → (t || some_holds on xs) ≡ false → (some_holds on xs ≡ false → Carry on v xs) → (IsTrue t → x.what ≡ v) × Carry on v xs
  by_test true none later = cc
  by_test false none later = (λ s. cc, later none)

pub or_right : (s t : Bool) → IsTrue t → IsTrue (s || t)
or_right true t is = refl
or_right false t is = is

pub placed_on_nothing : {P : Type 0} (on : ℕ → Bool) (when : Condition) (what : P) (old new : List (Entry P)) → some_holds on old ≡ false → IsTrue (value on when) → Places on when what old new →
    Stands on what new
placed_on_nothing on when what old new none t placed = record {
  held = rw placed.held (or_right (some_holds on old) (value on when) t);
  carry = placed.carry what (none_carry on what old none) (λ s. refl);
}

held_kept : (n o k m : Bool) → n ≡ (o || (k && m)) → k ≡ false → n ≡ o
held_kept n true k m is off = is
held_kept n false true m is off = cc
held_kept n false false m is off = is

held_placed : (n o k m : Bool) → n ≡ (o || (k && m)) → k ≡ true → o ≡ false → n ≡ m
held_placed n true k m is on' none = cc
held_placed n false true m is on' none = is
held_placed n false false m is on' none = cc

-- from a test that is both
pub never : {A : Type 0} (k : Bool) → k ≡ false → IsTrue k → A
never true off t = cc
never false off t = cc

sees_kept : {P : Type 0} (on : ℕ → Bool) (when : Condition) (more old new : List (Entry P)) → PlacesUnder on when more old new → value on when ≡ false →
    (o : Option P) → Sees on o old → Sees on o new
sees_kept on when more old new placed off None s = held_kept (some_holds on new) (some_holds on old) (value on when) (some_holds on more) placed.held off ∙ s
sees_kept on when more old new placed off (Some v) s = record {
  held = rw (held_kept (some_holds on new) (some_holds on old) (value on when) (some_holds on more) placed.held off) s.held;
  carry = placed.carry v s.carry (never (value on when) off);
}

sees_placed : {P : Type 0} (on : ℕ → Bool) (when : Condition) (more old new : List (Entry P)) → PlacesUnder on when more old new → value on when ≡ true → some_holds on old ≡ false →
    (o : Option P) → Sees on o more → Sees on o new
sees_placed on when more old new placed is none None s = held_placed (some_holds on new) (some_holds on old) (value on when) (some_holds on more) placed.held is none ∙ s
sees_placed on when more old new placed is none (Some v) s = record {
  held = rw (held_placed (some_holds on new) (some_holds on old) (value on when) (some_holds on more) placed.held is none) s.held;
  carry = placed.carry v (none_carry on v old none) (λ t. s.carry);
}

pub restricted : {P : Type 0} (on : ℕ → Bool) (when : Condition) (xs empty new : List (Entry P)) → some_holds on empty ≡ false → PlacesUnder on when xs empty new →
    (o : Option P) → Sees on o xs → Sees on (if value on when then o else None) new
restricted {P} on when xs empty new none placed o s = by_test (value on when) refl where
  by_test : (k : Bool) → value on when ≡ k → Sees on (if k then o else None) new
  by_test true is = sees_placed on when xs empty new placed is none o s
  by_test false off = sees_kept on when xs empty new placed off None none

pub chosen : {P : Type 0} (on : ℕ → Bool) (when elsewhere : Condition) (xs ys empty mid new : List (Entry P)) → value on elsewhere ≡ not (value on when) → some_holds on empty ≡ false →
    PlacesUnder on when xs empty mid → PlacesUnder on elsewhere ys mid new → (p q : Option P) → Sees on p xs → Sees on q ys → Sees on (if value on when then p else q) new
chosen {P} on when elsewhere xs ys empty mid new opposite none first second p q sp sq = by_test (value on when) refl where
  by_test : (k : Bool) → value on when ≡ k → Sees on (if k then p else q) new
  by_test true is = sees_kept on elsewhere ys mid new second (opposite ∙ ap not is) p (sees_placed on when xs empty mid first is none p sp)
  by_test false off = sees_placed on elsewhere ys mid new second (opposite ∙ ap not off) (sees_kept on when xs empty mid first off None none) q sq

-- ---- steps through alternatives

pub carry_drop : {T P : Type 0} (form : T → P) (on : ℕ → Bool) (w : P) (xs : List (Guarded T)) (i : ℕ) → Carry on w (entries_of form xs) → Carry on w (entries_of form (drop i xs))
carry_drop form on w [] zero carry = carry
carry_drop form on w [] (suc i) carry = carry
carry_drop form on w (x ∷ xs) zero carry = carry
carry_drop form on w (x ∷ xs) (suc i) carry = carry_drop form on w xs i carry.1

pub carry_item : {T P : Type 0} (form : T → P) (on : ℕ → Bool) (w : P) (xs : List (Guarded T)) (x : Guarded T) (i : ℕ) → drop i xs ≡ x ∷ drop (i + 1) xs →
    Carry on w (entries_of form xs) → IsTrue (value on (condition_of x.when)) → form x.what ≡ w
carry_item form on w xs x i is carry = let c = carry_drop form on w xs i carry in let d = rw is at c in d.0

-- how far the alternatives are placed under a condition k
pub record PlacedSoFar {P : Type 0} (on : ℕ → Bool) (k : Bool) (more rest old now : List (Entry P)) : Type 0 where
  pub held : (some_holds on now || (k && some_holds on rest)) ≡ (some_holds on old || (k && some_holds on more))
  pub carry : (v : P) → Carry on v old → (IsTrue k → Carry on v more) → Carry on v now

regroup : (n t k r : Bool) → ((n || (t && k)) || (k && r)) ≡ (n || (k && (t || r)))
regroup true t k r = refl
regroup false true true r = refl
regroup false true false r = refl
regroup false false true r = refl
regroup false false false r = refl

both_true : {A : Type 0} (t k : Bool) → IsTrue (t && k) → (IsTrue t → IsTrue k → A) → A
both_true true true is next = next refl refl
both_true true false is next = cc
both_true false k is next = cc

pub placed_start : {P : Type 0} (on : ℕ → Bool) (k : Bool) (more now : List (Entry P)) → PlacedSoFar on k more more now now
placed_start on k more now = record { held = refl; carry = λ v carry also. carry }

pub placed_step : {T P : Type 0} (form : T → P) (on : ℕ → Bool) (k : Bool) (here : Condition) (xs : List (Guarded T)) (x : Guarded T) (i : ℕ) (what : P) (old now new : List (Entry P)) →
    i < length xs → x ≡ get_or xs i x → value on here ≡ (value on (condition_of x.when) && k) → what ≡ form x.what →
    PlacedSoFar on k (entries_of form xs) (entries_of form (drop i xs)) old now → Places on here what now new →
    PlacedSoFar on k (entries_of form xs) (entries_of form (drop (i + 1) xs)) old new
placed_step form on k here xs x i what old now new within is same_here same_what before placed =
    let e = item_of xs x i within is in
    let held' = rw e at before.held in
    record {
      held =
          ap (λ (b : Bool). b || (k && some_holds on (entries_of form (drop (i + 1) xs)))) (placed.held ∙ ap (λ (b : Bool). some_holds on now || b) same_here)
          ∙ regroup (some_holds on now) (value on (condition_of x.when)) k (some_holds on (entries_of form (drop (i + 1) xs)))
          ∙ held';
      carry = λ v carry more. placed.carry v (before.carry v carry more) (λ s.
          both_true (value on (condition_of x.when)) k (rw (← same_here) s) (λ t u. same_what ∙ carry_item form on v xs x i e (more u) t));
    }

pub placed_all : {T P : Type 0} (form : T → P) (on : ℕ → Bool) (k : Bool) (xs : List (Guarded T)) (i : ℕ) (old now : List (Entry P)) → length xs ≤ i →
    PlacedSoFar on k (entries_of form xs) (entries_of form (drop i xs)) old now → PlacedSoFar on k (entries_of form xs) [] old now
placed_all form on k xs i old now past so_far =
    let e = drop_all i xs past in
    let held' = rw e at so_far.held in
    record { held = held'; carry = so_far.carry }

pub placed_end : {T P : Type 0} (form : T → P) (on : ℕ → Bool) (when : Condition) (xs : List (Guarded T)) (i : ℕ) (old now : List (Entry P)) → length xs ≤ i →
    PlacedSoFar on (value on when) (entries_of form xs) (entries_of form (drop i xs)) old now → PlacesUnder on when (entries_of form xs) old now
placed_end form on when xs i old now past so_far =
    let all = placed_all form on (value on when) xs i old now past so_far in
    record { held = sym (no_more (some_holds on now) (value on when)) ∙ all.held; carry = all.carry } where
      no_more : (n k : Bool) → (n || (k && false)) ≡ n
      no_more true k = refl
      no_more false true = refl
      no_more false false = refl

-- how far a function is applied to the alternatives
pub record MappedSoFar {P Q : Type 0} (on : ℕ → Bool) (gives : P → Q) (all rest : List (Entry P)) (now : List (Entry Q)) : Type 0 where
  pub held : (some_holds on now || some_holds on rest) ≡ some_holds on all
  pub carry : (v : P) → Carry on v all → Carry on (gives v) now

pub image_start : {P Q : Type 0} (on : ℕ → Bool) (gives : P → Q) (all : List (Entry P)) (now : List (Entry Q)) → some_holds on now ≡ false → MappedSoFar on gives all all now
image_start on gives all now none = record { held = ap (λ (b : Bool). b || some_holds on all) none; carry = λ v carry. none_carry on (gives v) now none }

pub image_step : {T P Q : Type 0} (form : T → P) (gives : P → Q) (on : ℕ → Bool) (here : Condition) (xs : List (Guarded T)) (x : Guarded T) (i : ℕ) (image : Q) (now new : List (Entry Q)) →
    i < length xs → x ≡ get_or xs i x → here ≡ condition_of x.when → image ≡ gives (form x.what) →
    MappedSoFar on gives (entries_of form xs) (entries_of form (drop i xs)) now → Places on here image now new →
    MappedSoFar on gives (entries_of form xs) (entries_of form (drop (i + 1) xs)) new
image_step form gives on here xs x i image now new within is same_here same_image before placed =
    let e = item_of xs x i within is in
    let held' = rw e at before.held in
    record {
      held =
          ap (λ (b : Bool). b || some_holds on (entries_of form (drop (i + 1) xs))) (placed.held ∙ ap (λ (c : Condition). some_holds on now || value on c) same_here)
          ∙ or_assoc (some_holds on now) (value on (condition_of x.when)) (some_holds on (entries_of form (drop (i + 1) xs)))
          ∙ held';
      carry = λ v carry. placed.carry (gives v) (before.carry v carry) (λ s. same_image ∙ ap gives (carry_item form on v xs x i e carry (rw (← same_here) s)));
    }

pub image_end : {T P Q : Type 0} (form : T → P) (gives : P → Q) (on : ℕ → Bool) (xs : List (Guarded T)) (i : ℕ) (now : List (Entry Q)) → length xs ≤ i →
    MappedSoFar on gives (entries_of form xs) (entries_of form (drop i xs)) now → (o : Option P) → Sees on o (entries_of form xs) → Sees on (option_map gives o) now
image_end form gives on xs i now past so_far o s =
    let e = drop_all i xs past in
    let held' = rw e at so_far.held in
    by_option (sym (or-false (some_holds on now)) ∙ held') o s where
      by_option : some_holds on now ≡ some_holds on (entries_of form xs) → (o : Option _) → Sees on o (entries_of form xs) → Sees on (option_map gives o) now
      by_option held None s = held ∙ s
      by_option held (Some v) s = record { held = rw held s.held; carry = so_far.carry v s.carry }

-- all alternatives are placed
pub copied : {P : Type 0} (on : ℕ → Bool) (xs empty new : List (Entry P)) → some_holds on empty ≡ false → PlacedSoFar on true xs [] empty new → (o : Option P) → Sees on o xs → Sees on o new
copied on xs empty new none so_far o s =
    sees_placed on Always xs empty new (record { held = sym (or-false (some_holds on new)) ∙ so_far.held; carry = so_far.carry }) refl none o s

-- ---- the value of the first entry that holds

-- how far it is found: whether an entry held so far, the first that holds of all and of those that are left, and what was placed
pub record FirstSoFar {P : Type 0} (on : ℕ → Bool) (earlier : Bool) (all rest : Option P) (now : List (Entry P)) : Type 0 where
  pub held : some_holds on now ≡ earlier
  pub carry : (v : P) → all ≡ Some v → Carry on v now
  pub found : earlier ≡ true → all ≡ None → ⊥
  pub left : earlier ≡ false → rest ≡ all

pub first_start : {P : Type 0} (on : ℕ → Bool) (all : Option P) (now : List (Entry P)) → some_holds on now ≡ false → FirstSoFar on false all all now
first_start on all now none = record { held = none; carry = λ v is. none_carry on v now none; found = λ e n. cc; left = λ e. refl }

pub first_step : {P : Type 0} (on : ℕ → Bool) (t earlier : Bool) (what : P) (all rest : Option P) (here : Condition) (now new : List (Entry P)) →
    value on here ≡ (t && not earlier) → Places on here what now new → FirstSoFar on earlier all (if t then Some what else rest) now → FirstSoFar on (earlier || t) all rest new
first_step on true true what all rest here now new is placed before = record {
  held = placed.held ∙ ap (λ (b : Bool). b || value on here) before.held;
  carry = λ v a. placed.carry v (before.carry v a) (never (value on here) is);
  found = before.found;
  left = λ e. cc;
}
first_step on false true what all rest here now new is placed before = record {
  held = placed.held ∙ ap (λ (b : Bool). b || value on here) before.held;
  carry = λ v a. placed.carry v (before.carry v a) (never (value on here) is);
  found = before.found;
  left = λ e. cc;
}
first_step {P} on true false what all rest here now new is placed before =
    let here_first = before.left refl in
    record {
      held = placed.held ∙ ap (λ (b : Bool). b || value on here) before.held ∙ is;
      carry = λ v a. placed.carry v (before.carry v a) (λ s. same_some what v (here_first ∙ a));
      found = λ e n. some_none what (here_first ∙ n);
      left = λ e. cc;
    } where
      same_some : (v w : P) → ◌≡◌ {A = Option P} (Some v) (Some w) → v ≡ w
      same_some v w e = cc

      some_none : (v : P) → ◌≡◌ {A = Option P} (Some v) None → ⊥
      some_none v e = cc
first_step on false false what all rest here now new is placed before = record {
  held = placed.held ∙ ap (λ (b : Bool). b || value on here) before.held ∙ is;
  carry = λ v a. placed.carry v (before.carry v a) (never (value on here) is);
  found = λ e n. cc;
  left = λ e. before.left refl;
}

pub first_end : {P : Type 0} (on : ℕ → Bool) (earlier : Bool) (all : Option P) (now : List (Entry P)) → FirstSoFar on earlier all None now → Sees on all now
first_end on true None now so_far = absurd (so_far.found refl refl)
first_end on false None now so_far = so_far.held
first_end on true (Some v) now so_far = record { held = so_far.held; carry = so_far.carry v refl }
first_end on false (Some v) now so_far = absurd (none_some v (so_far.left refl)) where
  none_some : {P : Type 0} (v : P) → ◌≡◌ {A = Option P} None (Some v) → ⊥
  none_some v e = cc

pub first_value_step : {T P : Type 0} (form : T → P) (on : ℕ → Bool) (xs : List (Guarded T)) (x : Guarded T) (i : ℕ) (earlier after here : Condition) (what : P) (all : Option P) (now new : List (Entry P)) →
    i < length xs → x ≡ get_or xs i x → value on after ≡ (value on earlier || value on (condition_of x.when)) → value on here ≡ (value on (condition_of x.when) && not (value on earlier)) → what ≡ form x.what →
    Places on here what now new → FirstSoFar on (value on earlier) all (first (seen on (entries_of form (drop i xs)))) now →
    FirstSoFar on (value on after) all (first (seen on (entries_of form (drop (i + 1) xs)))) new
first_value_step form on xs x i earlier after here what all now new within is is_after is_here same placed before =
    let e = first_at form on xs x i within is in
    let before' = rw e at before in
    let placed' = rw same at placed in
    rw is_after (first_step on (value on (condition_of x.when)) (value on earlier) (form x.what) all (first (seen on (entries_of form (drop (i + 1) xs)))) here now new is_here placed' before')
