-- What calls bring, but for sites and places.
use Rattle.std.proofs.Common.{◌≡◌, ℕ, zero, suc, Bool, true, false, not, ◌&&◌, ◌||◌, List, [], ◌∷◌, ◌++◌, map, Option, Some, None, IsTrue, refl, sym, ap, ◌∙◌}
use Rattle.std.specs.Prelude.{if◌then◌else◌}
use Rattle.std.proofs.lemmas.List.{map-append}
use Rattle.c_text.specs.Token.{PlainToken}
use Rattle.c_text.specs.Macros as spec
use Rattle.cond_bodies.specs.Cores.{cores}
use Rattle.cond_runs.specs.Looked.{looked, unless}
use Rattle.cond_macros.specs.Readings.{look}
use Rattle.cond_macros.specs.Outcomes.{is_bad_call, tokens_of}
use Rattle.cond_macros.specs.Below.{below, cores_of, all_cores_of, unless_any, behind_lists, one_list}
use Rattle.cond_macros.proofs.Cores.{Respects, level_alike, AreAlike, open_at, ends-cores, replacement_alike, substituted_alike}
use Rattle.cond_runs.proofs.Sites.{looked_cores, looked_exact}

-- ---- levels

pub below_alike : (table : spec.Table) (n : ℕ) → Respects (below table n)
below_alike table zero = record { alike = λ names xs ys e. refl }
below_alike table (suc n) = level_alike table n

below_more : (table : spec.Table) (left : ℕ) (active : List (List ℕ)) (items : List spec.Item) → below table (suc left) active items ≡ spec.unless_bad (spec.outside table (below table left) active items)
below_more table zero active items = refl
below_more table (suc left) active items = refl

look_cores : (r : spec.Replaced) → look false r ≡ cores_of (spec.unless_bad r)
look_cores (spec.fine items) = ap (λ (l : List spec.Item). Some l) (looked_cores items)
look_cores (spec.bad_call name) = refl

-- no list may stand below the deepest
pub below_none : (table : spec.Table) (left : ℕ) (active : List (List ℕ)) (items : List spec.Item) → left ≡ 0 → None ≡ cores_of (below table left active items)
below_none table left active items e = rw e refl

-- a list one level below
pub below_is : (table : spec.Table) (left less : ℕ) (active : List (List ℕ)) (items : List spec.Item) (given : Option (List spec.Item)) → left ≡ suc less →
    given ≡ look false (spec.outside table (below table less) active items) → given ≡ cores_of (below table left active items)
below_is table left less active items given e g =
    g ∙ look_cores (spec.outside table (below table less) active items) ∙ ap cores_of (sym (below_more table less active items)) ∙ ap (λ (n : ℕ). cores_of (below table n active items)) (sym e)

-- ---- the end of a replacement

some_parts : {A : Type 0} (x y : A) → ◌≡◌ {A = Option A} (Some x) (Some y) → x ≡ y
some_parts x y e = cc

pub left_open_is : (table : spec.Table) (first last : PlainToken) (refused : Bool) (items : List spec.Item) (found : Option (List spec.Item)) →
    unless refused (Some (map (looked false) items)) ≡ cores_of found →
    unless (spec.ends_in_function table items) (unless refused (Some (map (looked false) items))) ≡ cores_of (spec.unless_left_open table first last found)
left_open_is table first last true items None e = by_test (spec.ends_in_function table items) where
  by_test : (b : Bool) → unless b None ≡ None
  by_test true = refl
  by_test false = refl
left_open_is table first last true items (Some xs) e = cc
left_open_is table first last false items None e = cc
left_open_is table first last false items (Some xs) e =
    let same : cores items ≡ cores xs = sym (looked_cores items) ∙ some_parts (map (looked false) items) (cores xs) e in
    by_test (spec.ends_in_function table items)
    ∙ ap (λ (b : Bool). if b then None else Some (map (looked false) items)) (sym (ends-cores table items) ∙ ap (spec.ends_in_function table) same ∙ ends-cores table xs)
    ∙ ap (λ (l : List spec.Item). if spec.ends_in_function table xs then None else Some l) (looked_cores items ∙ same)
    ∙ sym (open_at (spec.ends_in_function table xs) first last xs)
  where
    by_test : (b : Bool) → unless b (Some (map (looked false) items)) ≡ (if b then None else Some (map (looked false) items))
    by_test true = refl
    by_test false = refl

-- ---- a call

module _ (table : spec.Table) (deeper : spec.Deeper) (respects : Respects deeper) (active : List (List ℕ)) where
  pub body_given : (call : spec.Call) (first last another : PlainToken) (refused : Bool) (lists : List (List spec.Item)) (body : List spec.Item) (found : Option (List (List spec.Item))) (given : Option (List spec.Item)) →
      first.text ≡ call.name.text → unless_any refused (map cores lists) ≡ all_cores_of found → AreAlike body (spec.substituted call.params lists call.body) →
      given ≡ cores_of (spec.replacement table deeper active first last body) →
      unless refused given ≡ cores_of (spec.body_replacement table deeper active call another found)
  body_given call first last another true lists body None given name e alike g = refl
  body_given call first last another true lists body (Some xs) given name e alike g = cc
  body_given call first last another false lists body None given name e alike g = cc
  body_given call first last another false lists body (Some xs) given name e alike g =
      g ∙ replacement_alike table deeper respects active first last call.name another body (spec.substituted call.params xs call.body) name
      (alike ∙ substituted_alike call.params lists xs call.body (some_parts (map cores lists) (map cores xs) e))

  -- a call whose function brings this where it fits
  pub call_given : (call : spec.Call) (another : PlainToken) (unfit : Bool) (given : Option (List spec.Item)) → unfit ≡ not (spec.fits call.params (spec.all_arguments call)) →
      (spec.fits call.params (spec.all_arguments call) ≡ true → given ≡ cores_of (spec.body_replacement table deeper active call another (spec.all_replaced deeper active (spec.all_arguments call)))) →
      unless unfit given ≡ cores_of (spec.call_replacement table deeper active call another)
  call_given call another unfit given is_unfit is_given =
      ap (λ (b : Bool). unless b given) is_unfit ∙ by_test (spec.fits call.params (spec.all_arguments call)) is_given
    where
      by_test : (b : Bool) → (b ≡ true → given ≡ cores_of (spec.body_replacement table deeper active call another (spec.all_replaced deeper active (spec.all_arguments call)))) →
          unless (not b) given ≡ cores_of (if b then spec.body_replacement table deeper active call another (spec.all_replaced deeper active (spec.all_arguments call)) else None)
      by_test true h = h refl
      by_test false h = refl

  -- a call that no function of its name can be
  pub call_unfit : (call : spec.Call) (another : PlainToken) (unfit : Bool) (items : Option (List spec.Item)) → unfit ≡ not (spec.fits call.params (spec.all_arguments call)) → spec.fits call.params (spec.all_arguments call) ≡ false →
      unless unfit items ≡ cores_of (spec.call_replacement table deeper active call another)
  call_unfit call another unfit items e f = rw (e, f) refl

-- a list that isn't exact
pub inexact : {A : Type 0} → false ≡ true → A
inexact e = cc

pub both_true : (a b w : Bool) → w ≡ (a && b) → IsTrue a → b ≡ true → IsTrue w
both_true true b w e h f = e ∙ f
both_true false b w e h f = cc

-- ---- arguments, and whole lists

pub lists_added : (a b r : Bool) (lists new : List (List spec.Item)) (items : List spec.Item) → r ≡ (a || b) → new ≡ lists ++ items ∷ [] →
    unless_any r (map cores new) ≡ behind_lists (unless_any a (map cores lists)) (one_list (unless b (Some (map (looked false) items))))
lists_added true b r lists new items is e = ap (λ (x : Bool). unless_any x (map cores new)) is
lists_added false true r lists new items is e = ap (λ (x : Bool). unless_any x (map cores new)) is
lists_added false false r lists new items is e =
    ap (λ (x : Bool). unless_any x (map cores new)) is
    ∙ ap (λ (l : List (List spec.Item)). Some (map cores l)) e
    ∙ ap (λ (l : List (List spec.Item)). Some l) (map-append cores lists (items ∷ []) ∙ ap (λ (l : List spec.Item). map cores lists ++ l ∷ []) (sym (looked_cores items)))

pub outcome_is : (refused : Bool) (items : List spec.Item) (r : spec.Replaced) → unless refused (Some (map (looked true) items)) ≡ look true r → (refused ≡ is_bad_call r) × (is_bad_call r ≡ false → map (λ i. i.token) items ≡ tokens_of r)
outcome_is true items (spec.fine given) e = cc
outcome_is true items (spec.bad_call name) e = (refl, λ f. cc)
outcome_is false items (spec.fine given) e = (refl, λ f. ap (map (λ (i : spec.Item). i.token)) (sym (looked_exact items) ∙ some_parts (map (looked true) items) (map (looked true) given) e ∙ looked_exact given))
outcome_is false items (spec.bad_call name) e = cc
