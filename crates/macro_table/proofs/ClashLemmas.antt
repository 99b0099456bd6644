-- The definition that counts, while a list of definitions is read.
use Rattle.std.proofs.Common.{◌≡◌, ℕ, suc, ◌+◌, ◌<◌, ◌≤◌, if◌then◌else◌, Bool, true, false, not, ◌&&◌, ◌||◌, List, [], ◌∷◌, map, drop, length, get_or, Option, Some, None, refl, sym, ap, ◌∙◌, add-one, drop-cons}
use Rattle.std.specs.Prelude.{is_some}
use Rattle.std.specs.Option.{option_map}
use Rattle.std.proofs.lemmas.List.{drop_all}
use Rattle.c_text.specs.Directives.{PlainMacro}
use Rattle.c_text.specs.Macros.{Meaning}
use Rattle.c_text.specs.Preprocessing.{same_meaning}
use Rattle.cond_formula.specs.Conditions.{Condition, condition_of, value}
use Rattle.conditional.specs.declared.entries.Guarded.{Guarded}
use Rattle.conditional.specs.Entries.{Entry, entries_of, first, seen, some_holds, Sees, Carry}
use Rattle.macro_table.specs.declared.definitions.Definition.{Definition}
use Rattle.macro_table.specs.PlainDefinitions.{plain_definition}
use Rattle.macro_table.specs.MacroTables.{macro_meaning, clashes, meaning_among}

-- ---- where a second definition is refused

meaning_at : (on : ℕ → Bool) (xs : List (Guarded Definition)) (x : Guarded Definition) (i : ℕ) → i < length xs → x ≡ get_or xs i x →
    meaning_among on (entries_of plain_definition (drop i xs))
    ≡ (if value on (condition_of x.when) then Some (macro_meaning (plain_definition x.what)) else meaning_among on (entries_of plain_definition (drop (i + 1) xs)))
meaning_at on xs x i within is =
    let e : drop i xs ≡ x ∷ drop (i + 1) xs = rw (add-one, drop-cons xs i x within) (ap (λ (y : Guarded Definition). y ∷ drop (suc i) xs) (sym is)) in
    rw e (by_test (value on (condition_of x.when)))
  where
    by_test : (t : Bool) → option_map macro_meaning (first (if t then plain_definition x.what ∷ seen on (entries_of plain_definition (drop (i + 1) xs)) else seen on (entries_of plain_definition (drop (i + 1) xs))))
        ≡ (if t then Some (macro_meaning (plain_definition x.what)) else meaning_among on (entries_of plain_definition (drop (i + 1) xs)))
    by_test true = refl
    by_test false = refl

same_step : (a s t : Bool) (old : Option Meaning) (m new : Meaning) → same_meaning m new ≡ true →
    (a || (not (s || t) && clashes old new)) ≡ (a || (not s && clashes (if t then Some m else old) new))
same_step true s t old m new same = refl
same_step false true t old m new same = refl
same_step false false true old m new same = rw same refl
same_step false false false old m new same = refl

clash_step : (a s t : Bool) (old : Option Meaning) (m new : Meaning) → same_meaning m new ≡ false →
    ((a || (t && not s)) || (not s && clashes old new)) ≡ (a || (not s && clashes (if t then Some m else old) new))
clash_step true s t old m new other = refl
clash_step false true true old m new other = refl
clash_step false true false old m new other = refl
clash_step false false true old m new other = rw other refl
clash_step false false false old m new other = refl

pub met_same : (on : ℕ → Bool) (xs : List (Guarded Definition)) (x : Guarded Definition) (i : ℕ) (new : Meaning) (clash same after : Condition) (all : Bool) →
    i < length xs → x ≡ get_or xs i x → same_meaning (macro_meaning (plain_definition x.what)) new ≡ true → value on after ≡ (value on same || value on (condition_of x.when)) →
    (value on clash || (not (value on same) && clashes (meaning_among on (entries_of plain_definition (drop i xs))) new)) ≡ all →
    (value on clash || (not (value on after) && clashes (meaning_among on (entries_of plain_definition (drop (i + 1) xs))) new)) ≡ all
met_same on xs x i new clash same after all within is means is_after before =
    let e = meaning_at on xs x i within is in
    let before' = rw e at before in
    ap (λ (b : Bool). value on clash || (not b && clashes (meaning_among on (entries_of plain_definition (drop (i + 1) xs))) new)) is_after
    ∙ same_step (value on clash) (value on same) (value on (condition_of x.when)) (meaning_among on (entries_of plain_definition (drop (i + 1) xs))) (macro_meaning (plain_definition x.what)) new means
    ∙ before'

pub met_other : (on : ℕ → Bool) (xs : List (Guarded Definition)) (x : Guarded Definition) (i : ℕ) (new : Meaning) (clash same after : Condition) (all : Bool) →
    i < length xs → x ≡ get_or xs i x → same_meaning (macro_meaning (plain_definition x.what)) new ≡ false →
    value on after ≡ (value on clash || (value on (condition_of x.when) && not (value on same))) →
    (value on clash || (not (value on same) && clashes (meaning_among on (entries_of plain_definition (drop i xs))) new)) ≡ all →
    (value on after || (not (value on same) && clashes (meaning_among on (entries_of plain_definition (drop (i + 1) xs))) new)) ≡ all
met_other on xs x i new clash same after all within is means is_after before =
    let e = meaning_at on xs x i within is in
    let before' = rw e at before in
    ap (λ (b : Bool). b || (not (value on same) && clashes (meaning_among on (entries_of plain_definition (drop (i + 1) xs))) new)) is_after
    ∙ clash_step (value on clash) (value on same) (value on (condition_of x.when)) (meaning_among on (entries_of plain_definition (drop (i + 1) xs))) (macro_meaning (plain_definition x.what)) new means
    ∙ before'

pub all_met : (on : ℕ → Bool) (xs : List (Guarded Definition)) (i : ℕ) (new : Meaning) (clash same : Condition) (all : Bool) → length xs ≤ i →
    (value on clash || (not (value on same) && clashes (meaning_among on (entries_of plain_definition (drop i xs))) new)) ≡ all → value on clash ≡ all
all_met on xs i new clash same all past before =
    let e = drop_all i xs past in
    let before' = rw e at before in
    by_tests (value on clash) (value on same) ∙ before'
  where
    by_tests : (a s : Bool) → a ≡ (a || (not s && false))
    by_tests true s = refl
    by_tests false true = refl
    by_tests false false = refl

-- ---- what is seen

pub holds_is_some : (on : ℕ → Bool) (xs : List (Entry PlainMacro)) → some_holds on xs ≡ is_some (meaning_among on xs)
holds_is_some on [] = refl
holds_is_some on (x ∷ xs) = by_test (value on x.when) (holds_is_some on xs) where
  by_test : (t : Bool) → some_holds on xs ≡ is_some (meaning_among on xs) →
      (t || some_holds on xs) ≡ is_some (option_map macro_meaning (first (if t then x.what ∷ seen on xs else seen on xs)))
  by_test true rest = refl
  by_test false rest = rest

module _ {A P Q : Type 0} (f : P → Q) (when_of : A → Condition) (what_of : A → P) (on : ℕ → Bool) where
  some_holds-image : (xs : List A) →
      some_holds {P = Q} on (map (λ x. record { when = when_of x; what = f (what_of x) }) xs) ≡ some_holds {P = P} on (map (λ x. record { when = when_of x; what = what_of x }) xs)
  some_holds-image [] = refl
  some_holds-image (x ∷ xs) = ap (λ (b : Bool). value on (when_of x) || b) (some_holds-image xs)

  Carry-image : (v : P) (xs : List A) → Carry on v (map (λ x. record { when = when_of x; what = what_of x }) xs) → Carry on (f v) (map (λ x. record { when = when_of x; what = f (what_of x) }) xs)
  Carry-image v [] carry = tt
  Carry-image v (x ∷ xs) carry = (λ t. ap f (carry.0 t), Carry-image v xs carry.1)

  -- what a function makes of the value that is seen
  pub sees_image : (o : Option P) (xs : List A) → Sees on o (map (λ x. record { when = when_of x; what = what_of x }) xs) → Sees on (option_map f o) (map (λ x. record { when = when_of x; what = f (what_of x) }) xs)
  sees_image None xs none = some_holds-image xs ∙ none
  sees_image (Some v) xs stands = record { held = rw (some_holds-image xs) stands.held; carry = Carry-image v xs stands.carry }
