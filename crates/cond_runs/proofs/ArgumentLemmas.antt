-- Arguments and the functions that fit them, step by step.
use Rattle.std.proofs.Common.{◌≡◌, ◌≢◌, ℕ, suc, ◌+◌, ◌<◌, ◌≤◌, Bool, true, false, not, ◌&&◌, ◌||◌, if◌then◌else◌, List, [], ◌∷◌, ◌++◌, map, drop, length, get_or, Vec, Global, refl, sym, ap, ◌∙◌, add-one, drop-cons, append_assoc, append-nil, arith}
use Rattle.std.specs.Prelude.{◌==◌}
use Rattle.std.proofs.lemmas.List.{drop_all, length-map}
use Rattle.std.proofs.lemmas.Bool.Decides.{nat_tests}
use Rattle.c_text.specs.Macros as spec
use Rattle.cond_formula.specs.Conditions.{condition_of, value}
use Rattle.conditional.specs.declared.entries.Guarded.{Guarded}
use Rattle.conditional.specs.Entries.{entries_of, seen, under}
use Rattle.cond_bodies.specs.declared.item.Item.{Item}
use Rattle.cond_bodies.specs.declared.meanings.Function.{Function}
use Rattle.cond_bodies.specs.CondItems.{item_at, items_at}
use Rattle.cond_bodies.specs.CondMeanings.{PlainFunction, plain_function}
use Rattle.cond_bodies.proofs.ItemLemmas.{seen_next}
use Rattle.cond_runs.specs.Functions.{is_single, or_function}
use Rattle.cond_runs.specs.CondArguments.{lists_at, is_present, fit_among, some_unfit}

-- ---- whether an item is present

present_cases : (s t all : Bool) (y : spec.Item) (rest : List spec.Item) → (s || is_present (if t then y ∷ rest else rest)) ≡ all → ((s || t) || is_present rest) ≡ all
present_cases true t all y rest e = e
present_cases false true all y rest e = e
present_cases false false all y rest e = e

pub present_step : (on : ℕ → Bool) (xs : List (Guarded Item)) (x : Guarded Item) (i : ℕ) (some new all : Bool) → i < length xs → x ≡ get_or xs i x → new ≡ (some || value on (condition_of x.when)) →
    (some || is_present (items_at on (drop i xs))) ≡ all → (new || is_present (items_at on (drop (i + 1) xs))) ≡ all
present_step on xs x i some new all within is is_new before =
    let before' = rw (seen_next (item_at on) on xs x i within is) at before in
    ap (λ (b : Bool). b || is_present (items_at on (drop (i + 1) xs))) is_new ∙ present_cases some (value on (condition_of x.when)) all (item_at on x.what) (items_at on (drop (i + 1) xs)) before'

pub present_known : (on : ℕ → Bool) (xs : List (Guarded Item)) (x : Guarded Item) (i : ℕ) (some all : Bool) → i < length xs → x ≡ get_or xs i x → value on (condition_of x.when) ≡ true →
    (some || is_present (items_at on (drop i xs))) ≡ all → true ≡ all
present_known on xs x i some all within is always before =
    let before' = rw (seen_next (item_at on) on xs x i within is, always) at before in
    or_true some ∙ before'
  where
    or_true : (s : Bool) → true ≡ (s || true)
    or_true true = refl
    or_true false = refl

pub or_false : (b : Bool) → b ≡ (b || false)
or_false true = refl
or_false false = refl

pub present_end : (on : ℕ → Bool) (xs : List (Guarded Item)) (i : ℕ) (some all : Bool) → length xs ≤ i → (some || is_present (items_at on (drop i xs))) ≡ all → some ≡ all
present_end on xs i some all past before =
    let e = drop_all i xs past in
    let before' = rw e at before in
    or_false some ∙ before'

-- ---- functions that fit

fit_cases : (t unfit fit : Bool) (y : PlainFunction) (rest so_far new all : List PlainFunction) (arguments : List (List spec.Item)) → unfit ≡ not fit → spec.fits y.params arguments ≡ fit →
    so_far ++ fit_among arguments (if t then y ∷ rest else rest) ≡ all → new ≡ so_far ++ under (t && not unfit) (y ∷ []) → new ++ fit_among arguments rest ≡ all
fit_cases true unfit true y rest so_far new all arguments u f before pushed =
    let before' = rw f at before in
    ap (λ (l : List PlainFunction). l ++ fit_among arguments rest) (pushed ∙ ap (λ (b : Bool). so_far ++ under (true && not b) (y ∷ [])) u) ∙ append_assoc so_far (y ∷ []) (fit_among arguments rest) ∙ before'
fit_cases true unfit false y rest so_far new all arguments u f before pushed =
    let before' = rw f at before in
    ap (λ (l : List PlainFunction). l ++ fit_among arguments rest) (pushed ∙ ap (λ (b : Bool). so_far ++ under (true && not b) (y ∷ [])) u ∙ append-nil so_far) ∙ before'
fit_cases false unfit fit y rest so_far new all arguments u f before pushed =
    ap (λ (l : List PlainFunction). l ++ fit_among arguments rest) (pushed ∙ append-nil so_far) ∙ before

unfit_cases : (t unfit s new all : Bool) (y : PlainFunction) (rest : List PlainFunction) (arguments : List (List spec.Item)) → unfit ≡ not (spec.fits y.params arguments) →
    (s || some_unfit arguments (if t then y ∷ rest else rest)) ≡ all → new ≡ (s || (t && unfit)) → (new || some_unfit arguments rest) ≡ all
unfit_cases true unfit s new all y rest arguments u before pushed =
    ap (λ (b : Bool). b || some_unfit arguments rest) (pushed ∙ ap (λ (b : Bool). s || (true && b)) u) ∙ or_assoc s (not (spec.fits y.params arguments)) (some_unfit arguments rest) ∙ before
  where
    or_assoc : (a b c : Bool) → ((a || b) || c) ≡ (a || (b || c))
    or_assoc true b c = refl
    or_assoc false b c = refl
unfit_cases false unfit s new all y rest arguments u before pushed = ap (λ (b : Bool). b || some_unfit arguments rest) (pushed ∙ sym (or_false s)) ∙ before

module _ (on : ℕ → Bool) (xs : List (Guarded Function)) (x : Guarded Function) (i : ℕ) (within : i < length xs) (is : x ≡ get_or xs i x) (arguments : List (List spec.Item)) (unfit : Bool)
    (is_unfit : unfit ≡ not (spec.fits (plain_function x.what).params arguments)) where
  pub fit_step : (so_far new all : List PlainFunction) → so_far ++ fit_among arguments (seen on (entries_of plain_function (drop i xs))) ≡ all →
      new ≡ so_far ++ under (value on (condition_of x.when) && not unfit) (plain_function x.what ∷ []) → new ++ fit_among arguments (seen on (entries_of plain_function (drop (i + 1) xs))) ≡ all
  fit_step so_far new all before pushed =
      let before' = rw (seen_next plain_function on xs x i within is) at before in
      fit_cases (value on (condition_of x.when)) unfit (spec.fits (plain_function x.what).params arguments) (plain_function x.what) (seen on (entries_of plain_function (drop (i + 1) xs))) so_far new all arguments is_unfit refl before' pushed

  pub unfit_step : (s new all : Bool) → (s || some_unfit arguments (seen on (entries_of plain_function (drop i xs)))) ≡ all →
      new ≡ (s || (value on (condition_of x.when) && unfit)) → (new || some_unfit arguments (seen on (entries_of plain_function (drop (i + 1) xs)))) ≡ all
  unfit_step s new all before pushed =
      let before' = rw (seen_next plain_function on xs x i within is) at before in
      unfit_cases (value on (condition_of x.when)) unfit s new all (plain_function x.what) (seen on (entries_of plain_function (drop (i + 1) xs))) arguments is_unfit before' pushed

pub fit_end : (on : ℕ → Bool) (xs : List (Guarded Function)) (i : ℕ) (arguments : List (List spec.Item)) (so_far all : List PlainFunction) → length xs ≤ i → so_far ++ fit_among arguments (seen on (entries_of plain_function (drop i xs))) ≡ all → so_far ≡ all
fit_end on xs i arguments so_far all past before =
    let e = drop_all i xs past in
    let before' = rw e at before in
    sym (append-nil so_far) ∙ before'

pub unfit_end : (on : ℕ → Bool) (xs : List (Guarded Function)) (i : ℕ) (arguments : List (List spec.Item)) (s all : Bool) → length xs ≤ i → (s || some_unfit arguments (seen on (entries_of plain_function (drop i xs)))) ≡ all → s ≡ all
unfit_end on xs i arguments s all past before =
    let e = drop_all i xs past in
    let before' = rw e at before in
    or_false s ∙ before'

-- ---- numbers of arguments

pub none_fit : {A : Type 0} (form : A → List spec.Item) (xs : List A) → length xs ≡ 0 → false ≡ not (spec.fits [] (map form xs))
none_fit form [] e = refl
none_fit form (x ∷ xs) e = absurd (omega arith)

pub many_unfit : {A : Type 0} (form : A → List spec.Item) (xs : List A) → 1 < length xs → true ≡ not (spec.fits [] (map form xs))
many_unfit form [] h = absurd (omega arith)
many_unfit form (x ∷ []) h = absurd (omega arith)
many_unfit form (x ∷ y ∷ xs) h = two (form x) (form y) (map form xs) where
  two : (a b : List spec.Item) (rest : List (List spec.Item)) → true ≡ not (spec.fits [] (a ∷ b ∷ rest))
  two [] b rest = grind (arith, nat_tests)
  two (i ∷ a) b rest = grind (arith, nat_tests)

pub one_fits : {A : Type 0} (form : A → List spec.Item) (xs : List A) (x : A) → length xs ≢ 0 → length xs ≤ 1 → x ≡ get_or xs 0 x → is_present (form x) ≡ not (spec.fits [] (map form xs))
one_fits form [] x some h is = absurd (some refl)
one_fits {A} form (y ∷ []) x some h is = ap (λ (z : A). is_present (form z)) is ∙ one (form y) where
  one : (a : List spec.Item) → is_present a ≡ not (spec.fits [] (a ∷ []))
  one [] = refl
  one (i ∷ a) = refl
one_fits form (y ∷ z ∷ xs) x some h is = absurd (omega arith)

pub counts_fit : {A B : Type 0} (form : A → List spec.Item) (names : B → List ℕ) (ps : List B) (xs : List A) → length ps ≢ 0 → length ps ≡ length xs → false ≡ not (spec.fits (map names ps) (map form xs))
counts_fit form names [] xs some e = absurd (some refl)
counts_fit {A} {B} form names (p ∷ ps) xs some e =
    let f : length (map names (p ∷ ps)) ≡ length (map form xs) = length-map (p ∷ ps) names ∙ e ∙ sym (length-map xs form) in
    same (length (map names (p ∷ ps))) (length (map form xs)) f
  where
    same : (m n : ℕ) → m ≡ n → false ≡ not (m == n)
    same m n h = grind (arith, nat_tests)

pub counts_unfit : {A B : Type 0} (form : A → List spec.Item) (names : B → List ℕ) (ps : List B) (xs : List A) → length ps ≢ 0 → length ps ≢ length xs → true ≡ not (spec.fits (map names ps) (map form xs))
counts_unfit form names [] xs some e = absurd (some refl)
counts_unfit {A} {B} form names (p ∷ ps) xs some e =
    other (length (map names (p ∷ ps))) (length (map form xs)) (λ h. e (sym (length-map (p ∷ ps) names) ∙ h ∙ length-map xs form))
  where
    other : (m n : ℕ) → m ≢ n → true ≡ not (m == n)
    other m n h = grind (arith, nat_tests)

-- one function alone
pub fit_alone : (f : PlainFunction) (arguments : List (List spec.Item)) (fs : List PlainFunction) → fs ≡ f ∷ [] → spec.fits f.params arguments ≡ true → fit_among arguments fs ≡ f ∷ []
fit_alone f arguments fs e h = rw (e, h) refl

pub unfit_alone : (f : PlainFunction) (arguments : List (List spec.Item)) (fs : List PlainFunction) → fs ≡ f ∷ [] → some_unfit arguments fs ≡ not (spec.fits f.params arguments)
unfit_alone f arguments fs e = rw e (sym (or_false (not (spec.fits f.params arguments))))

pub empty_is : {A : Type 0} (xs : List A) → (length xs == 0) ≡ true → xs ≡ []
empty_is [] e = refl
empty_is (x ∷ xs) e = absurd (never (length xs) e) where
  never : (n : ℕ) → (suc n == 0) ≡ true → ⊥
  never n h = grind (arith, nat_tests)

pub unfit_if_none : (f : PlainFunction) (arguments : List (List spec.Item)) (fs : List PlainFunction) → fs ≡ f ∷ [] → fit_among arguments fs ≡ [] → spec.fits f.params arguments ≡ false
unfit_if_none f arguments fs e none = by_test (spec.fits f.params arguments) refl where
  by_test : (b : Bool) → spec.fits f.params arguments ≡ b → b ≡ false
  by_test true h = let alone : f ∷ [] ≡ [] = sym (fit_alone f arguments fs e h) ∙ none in cc
  by_test false h = refl

-- ---- lists that are kept

keep_cases : {P : Type 0} (t : Bool) (y : P) (rest so_far new all : List P) → so_far ++ (if t then y ∷ rest else rest) ≡ all → new ≡ so_far ++ under t (y ∷ []) → new ++ rest ≡ all
keep_cases {P} true y rest so_far new all before pushed = ap (λ (l : List P). l ++ rest) pushed ∙ append_assoc so_far (y ∷ []) rest ∙ before
keep_cases {P} false y rest so_far new all before pushed = ap (λ (l : List P). l ++ rest) (pushed ∙ append-nil so_far) ∙ before

pub keep_step : {T P : Type 0} (form : T → P) (on : ℕ → Bool) (xs : List (Guarded T)) (x : Guarded T) (i : ℕ) (so_far new all : List P) → i < length xs → x ≡ get_or xs i x →
    so_far ++ seen on (entries_of form (drop i xs)) ≡ all → new ≡ so_far ++ under (value on (condition_of x.when)) (form x.what ∷ []) → new ++ seen on (entries_of form (drop (i + 1) xs)) ≡ all
keep_step form on xs x i so_far new all within is before pushed =
    let before' = rw (seen_next form on xs x i within is) at before in
    keep_cases (value on (condition_of x.when)) (form x.what) (seen on (entries_of form (drop (i + 1) xs))) so_far new all before' pushed

pub keep_end : {T P : Type 0} (form : T → P) (on : ℕ → Bool) (xs : List (Guarded T)) (i : ℕ) (so_far all : List P) → length xs ≤ i → so_far ++ seen on (entries_of form (drop i xs)) ≡ all → so_far ≡ all
keep_end form on xs i so_far all past before =
    let e = drop_all i xs past in
    let before' = rw e at before in
    sym (append-nil so_far) ∙ before'

-- the same with a function of what is seen
form_cases : {P Q : Type 0} (f : P → Q) (t : Bool) (y : P) (rest : List P) (so_far new all : List Q) → so_far ++ map f (if t then y ∷ rest else rest) ≡ all → new ≡ so_far ++ under t (f y ∷ []) → new ++ map f rest ≡ all
form_cases {P} {Q} f true y rest so_far new all before pushed = ap (λ (l : List Q). l ++ map f rest) pushed ∙ append_assoc so_far (f y ∷ []) (map f rest) ∙ before
form_cases {P} {Q} f false y rest so_far new all before pushed = ap (λ (l : List Q). l ++ map f rest) (pushed ∙ append-nil so_far) ∙ before

pub form_step : {T P Q : Type 0} (f : P → Q) (form : T → P) (on : ℕ → Bool) (xs : List (Guarded T)) (x : Guarded T) (i : ℕ) (so_far new all : List Q) → i < length xs → x ≡ get_or xs i x →
    so_far ++ map f (seen on (entries_of form (drop i xs))) ≡ all → new ≡ so_far ++ under (value on (condition_of x.when)) (f (form x.what) ∷ []) → new ++ map f (seen on (entries_of form (drop (i + 1) xs))) ≡ all
form_step f form on xs x i so_far new all within is before pushed =
    let before' = rw (seen_next form on xs x i within is) at before in
    form_cases f (value on (condition_of x.when)) (form x.what) (seen on (entries_of form (drop (i + 1) xs))) so_far new all before' pushed

pub form_end : {T P Q : Type 0} (f : P → Q) (form : T → P) (on : ℕ → Bool) (xs : List (Guarded T)) (i : ℕ) (so_far all : List Q) → length xs ≤ i → so_far ++ map f (seen on (entries_of form (drop i xs))) ≡ all → so_far ≡ all
form_end f form on xs i so_far all past before =
    let e = drop_all i xs past in
    let before' = rw e at before in
    sym (append-nil so_far) ∙ before'

-- ---- arguments

pub next_element : {A B : Type 0} (f : A → B) (xs : List A) (x : A) (i : ℕ) → i < length xs → x ≡ get_or xs i x → map f (drop i xs) ≡ f x ∷ map f (drop (i + 1) xs)
next_element {A} f xs x i within is =
    let e : drop i xs ≡ x ∷ drop (i + 1) xs = rw (add-one, drop-cons xs i x within) (ap (λ (y : A). y ∷ drop (suc i) xs) (sym is)) in
    rw e refl

pub copied_step : (on : ℕ → Bool) (xs : List (Vec (Guarded Item) Global)) (x : Vec (Guarded Item) Global) (i : ℕ) (so_far new all : List (List spec.Item)) → i < length xs → x ≡ get_or xs i x →
    so_far ++ lists_at on (drop i xs) ≡ all → new ≡ so_far ++ items_at on x.items ∷ [] → new ++ lists_at on (drop (i + 1) xs) ≡ all
copied_step on xs x i so_far new all within is before pushed =
    let before' = rw (next_element (λ (v : Vec (Guarded Item) Global). items_at on v.items) xs x i within is) at before in
    ap (λ (l : List (List spec.Item)). l ++ lists_at on (drop (i + 1) xs)) pushed ∙ append_assoc so_far (items_at on x.items ∷ []) (lists_at on (drop (i + 1) xs)) ∙ before'

pub copied_end : (on : ℕ → Bool) (xs : List (Vec (Guarded Item) Global)) (i : ℕ) (so_far all : List (List spec.Item)) → length xs ≤ i → so_far ++ lists_at on (drop i xs) ≡ all → so_far ≡ all
copied_end on xs i so_far all past before =
    let e = drop_all i xs past in
    let before' = rw e at before in
    sym (append-nil so_far) ∙ before'

-- ---- the function of a call

pub single_is : (fs : List PlainFunction) → is_single fs ≡ true → fs ≡ or_function fs ∷ []
single_is [] e = cc
single_is (f ∷ []) e = refl
single_is (f ∷ g ∷ fs) e = cc
