-- What of a list of items is looked at ahead, step by step.
use Rattle.std.proofs.Common.{◌≡◌, ℕ, ◌+◌, ◌<◌, ◌≤◌, Bool, true, false, not, ◌&&◌, ◌||◌, if◌then◌else◌, List, [], ◌∷◌, drop, length, get_or, Option, Some, None, refl, sym, ap, ◌∙◌}
use Rattle.std.specs.Prelude.{codes, is_some}
use Rattle.std.proofs.lemmas.List.{drop_all}
use Rattle.c_text.specs.Directives.{is_spelled}
use Rattle.c_text.specs.Macros as spec
use Rattle.cond_formula.specs.Conditions.{condition_of, value}
use Rattle.conditional.specs.declared.entries.Guarded.{Guarded}
use Rattle.conditional.specs.Entries.{entries_of, seen, some_holds}
use Rattle.cond_bodies.specs.declared.item.Item.{Item}
use Rattle.cond_bodies.specs.CondItems.{item_at, items_at}
use Rattle.cond_bodies.specs.CondMeanings.{is_feature, object_of, function_of}
use Rattle.cond_bodies.proofs.ItemLemmas.{seen_next}

-- ---- whether the next item that is present is a `(`

opens_cases : (o left t s : Bool) (rest : Bool) → ((o || ((left && t) && s)) || ((left && not t) && rest)) ≡ (o || (left && (if t then s else rest)))
opens_cases true left t s rest = refl
opens_cases false false t s rest = refl
opens_cases false true true true rest = refl
opens_cases false true true false rest = refl
opens_cases false true false s rest = refl

opens_next : (t : Bool) (x : spec.Item) (rest : List spec.Item) → spec.opens (if t then x ∷ rest else rest) ≡ (if t then is_spelled (codes "(") x.token else spec.opens rest)
opens_next true x rest = refl
opens_next false x rest = refl

module _ (on : ℕ → Bool) (xs : List (Guarded Item)) (x : Guarded Item) (i : ℕ) (within : i < length xs) (is : x ≡ get_or xs i x) where
  pub opens_step : (opens left after_opens after : Bool) (all : Bool) →
      after_opens ≡ (opens || ((left && value on (condition_of x.when)) && is_spelled (codes "(") (item_at on x.what).token)) → after ≡ (left && not (value on (condition_of x.when))) →
      (opens || (left && spec.opens (items_at on (drop i xs)))) ≡ all → (after_opens || (after && spec.opens (items_at on (drop (i + 1) xs)))) ≡ all
  opens_step opens left after_opens after all is_opens is_after before =
      let t = value on (condition_of x.when) in
      let s = is_spelled (codes "(") (item_at on x.what).token in
      let rest = items_at on (drop (i + 1) xs) in
      ap (λ (b : Bool). b || (after && spec.opens rest)) is_opens
      ∙ ap (λ (b : Bool). (opens || ((left && t) && s)) || (b && spec.opens rest)) is_after
      ∙ opens_cases opens left t s (spec.opens rest)
      ∙ ap (λ (b : Bool). opens || (left && b)) (sym (ap spec.opens (seen_next (item_at on) on xs x i within is) ∙ opens_next t (item_at on x.what) rest))
      ∙ before

  -- an item that is always present ends the search
  pub opens_known : (opens left after_opens : Bool) (all : Bool) →
      after_opens ≡ (opens || ((left && value on (condition_of x.when)) && is_spelled (codes "(") (item_at on x.what).token)) → value on (condition_of x.when) ≡ true →
      (opens || (left && spec.opens (items_at on (drop i xs)))) ≡ all → after_opens ≡ all
  opens_known opens left after_opens all is_opens always before =
      never_more after_opens left (spec.opens (items_at on (drop (i + 1) xs)))
      ∙ opens_step opens left after_opens (left && not true) all is_opens (ap (λ (b : Bool). left && not b) (sym always)) before
    where
      never_more : (a left r : Bool) → a ≡ (a || ((left && not true) && r))
      never_more true left r = refl
      never_more false true r = refl
      never_more false false r = refl

pub opens_end : (on : ℕ → Bool) (xs : List (Guarded Item)) (i : ℕ) (opens left all : Bool) → length xs ≤ i → (opens || (left && spec.opens (items_at on (drop i xs)))) ≡ all → opens ≡ all
opens_end on xs i opens left all past before =
    let e = drop_all i xs past in
    let before' = rw e at before in
    no_more opens left ∙ before'
  where
    no_more : (a l : Bool) → a ≡ (a || (l && false))
    no_more true l = refl
    no_more false true = refl
    no_more false false = refl

-- ---- whether the last item is a function-like macro's name

abbrev pub ends_from : spec.Table → Bool → List spec.Item → Bool
ends_from table b [] = b
ends_from table b (item ∷ rest) = ends_from table (spec.is_function (spec.meaning_of table item)) rest

pub ends_is : (table : spec.Table) (items : List spec.Item) → ends_from table false items ≡ spec.ends_in_function table items
ends_is table [] = refl
ends_is table (item ∷ []) = refl
ends_is table (first ∷ second ∷ rest) = ends_is table (second ∷ rest)

pub ends_step : (table : spec.Table) (on : ℕ → Bool) (xs : List (Guarded Item)) (x : Guarded Item) (i : ℕ) (before after all : Bool) → i < length xs → x ≡ get_or xs i x →
    after ≡ (if value on (condition_of x.when) then spec.is_function (spec.meaning_of table (item_at on x.what)) else before) →
    ends_from table before (items_at on (drop i xs)) ≡ all → ends_from table after (items_at on (drop (i + 1) xs)) ≡ all
ends_step table on xs x i before after all within is is_after so_far =
    ap (λ (b : Bool). ends_from table b (items_at on (drop (i + 1) xs))) is_after
    ∙ by_test (value on (condition_of x.when)) (items_at on (drop (i + 1) xs))
    ∙ ap (ends_from table before) (sym (seen_next (item_at on) on xs x i within is))
    ∙ so_far
  where
    by_test : (t : Bool) (rest : List spec.Item) → ends_from table (if t then spec.is_function (spec.meaning_of table (item_at on x.what)) else before) rest ≡ ends_from table before (if t then item_at on x.what ∷ rest else rest)
    by_test true rest = refl
    by_test false rest = refl

pub ends_end : (table : spec.Table) (on : ℕ → Bool) (xs : List (Guarded Item)) (i : ℕ) (b all : Bool) → length xs ≤ i → ends_from table b (items_at on (drop i xs)) ≡ all → b ≡ all
ends_end table on xs i b all past so_far =
    let e = drop_all i xs past in
    let so_far' = rw e at so_far in
    so_far'

-- ---- kinds of meanings

abbrev pub is_some_list : {P : Type 0} → List P → Bool
is_some_list [] = false
is_some_list (x ∷ xs) = true

pub holds_is_seen : {T P : Type 0} (form : T → P) (on : ℕ → Bool) (xs : List (Guarded T)) → some_holds on (entries_of (λ x. x) xs) ≡ is_some_list (seen on (entries_of form xs))
holds_is_seen form on [] = refl
holds_is_seen form on (x ∷ xs) = by_test (value on (condition_of x.when)) (holds_is_seen form on xs) where
  by_test : (t : Bool) → some_holds on (entries_of (λ x. x) xs) ≡ is_some_list (seen on (entries_of form xs)) →
      (t || some_holds on (entries_of (λ x. x) xs)) ≡ is_some_list (if t then form x.what ∷ seen on (entries_of form xs) else seen on (entries_of form xs))
  by_test true rest = refl
  by_test false rest = rest

pub function_is : (o : Option spec.Meaning) → is_some_list (function_of o) ≡ spec.is_function o
function_is None = refl
function_is (Some (spec.feature one)) = refl
function_is (Some (spec.object body)) = refl
function_is (Some (spec.function params body)) = refl

pub some_is_any : (o : Option spec.Meaning) → ((is_some_list (object_of o) || is_some_list (function_of o)) || is_feature o) ≡ is_some o
some_is_any None = refl
some_is_any (Some (spec.feature one)) = refl
some_is_any (Some (spec.object body)) = refl
some_is_any (Some (spec.function params body)) = refl
