-- What is seen of conditional lists.
use Rattle.std.proofs.Common.{◌≡◌, ℕ, suc, ◌+◌, ◌<◌, ◌≤◌, if◌then◌else◌, Bool, true, false, not, ◌&&◌, ◌||◌, Option, Some, None, List, [], ◌∷◌, ◌++◌, map, drop, length, get_or, refl, sym, ap, ◌∙◌, add-one, drop-cons, append_assoc, append-nil}
use Rattle.std.proofs.lemmas.List.{drop_all, map-append}
use Rattle.cond_formula.specs.Conditions.{value, condition_of}
use Rattle.conditional.specs.declared.entries.Guarded.{Guarded}
use Rattle.conditional.specs.Entries.{Entry, entry_of, entries_of, seen, under, first, or_later}

pub seen-append : {P : Type 0} (on : ℕ → Bool) (xs ys : List (Entry P)) → seen on (xs ++ ys) ≡ seen on xs ++ seen on ys
seen-append on [] ys = refl
seen-append {P} on (x ∷ xs) ys = by_test (value on x.when) (seen-append on xs ys) where
  by_test : (t : Bool) → seen on (xs ++ ys) ≡ seen on xs ++ seen on ys →
      (if t then x.what ∷ seen on (xs ++ ys) else seen on (xs ++ ys)) ≡ (if t then x.what ∷ seen on xs else seen on xs) ++ seen on ys
  by_test true rest = ap (λ (l : List P). x.what ∷ l) rest
  by_test false rest = rest

-- a list, and then another
pub seen_both : {T P : Type 0} (form : T → P) (on : ℕ → Bool) (xs ys both : List (Guarded T)) → both ≡ xs ++ ys →
    seen on (entries_of form both) ≡ seen on (entries_of form xs) ++ seen on (entries_of form ys)
seen_both form on xs ys both is = ap (λ (l : List (Guarded _)). seen on (entries_of form l)) is ∙ ap (seen on) (map-append (entry_of form) xs ys) ∙ seen-append on (entries_of form xs) (entries_of form ys)

-- one more entry
pub seen_push : {T P : Type 0} (form : T → P) (on : ℕ → Bool) (xs longer : List (Guarded T)) (x : Guarded T) → longer ≡ xs ++ x ∷ [] →
    seen on (entries_of form longer) ≡ seen on (entries_of form xs) ++ under (value on (condition_of x.when)) (form x.what ∷ [])
seen_push {T} {P} form on xs longer x is = seen_both form on xs (x ∷ []) longer is ∙ ap (λ (l : List P). seen on (entries_of form xs) ++ l) (one (value on (condition_of x.when))) where
  one : (t : Bool) → (if t then form x.what ∷ [] else []) ≡ under t (form x.what ∷ [])
  one true = refl
  one false = refl

-- the item at an index, and what is behind it
pub item_of : {T : Type 0} (xs : List T) (x : T) (i : ℕ) → i < length xs → x ≡ get_or xs i x → drop i xs ≡ x ∷ drop (i + 1) xs
item_of xs x i within is = rw (add-one, drop-cons xs i x within) (ap (λ (y : _). y ∷ drop (suc i) xs) (sym is))

nothing_more : {P : Type 0} (k : Bool) (xs : List P) → xs ++ under k [] ≡ xs
nothing_more true xs = append-nil xs
nothing_more false xs = append-nil xs

appended_step : {P : Type 0} (k t : Bool) (what : P) (rest so_far new all : List P) → so_far ++ under k (if t then what ∷ rest else rest) ≡ all → new ≡ so_far ++ under (t && k) (what ∷ []) →
    new ++ under k rest ≡ all
appended_step {P} true true what rest so_far new all before pushed = ap (λ (l : List P). l ++ rest) pushed ∙ append_assoc so_far (what ∷ []) rest ∙ before
appended_step {P} true false what rest so_far new all before pushed = ap (λ (l : List P). l ++ rest) (pushed ∙ append-nil so_far) ∙ before
appended_step {P} false true what rest so_far new all before pushed = ap (λ (l : List P). l ++ []) (pushed ∙ append-nil so_far) ∙ before
appended_step {P} false false what rest so_far new all before pushed = ap (λ (l : List P). l ++ []) (pushed ∙ append-nil so_far) ∙ before

-- one step through a list that is copied under a condition k
pub copied_step : {T P : Type 0} (form : T → P) (on : ℕ → Bool) (k here : Bool) (xs : List (Guarded T)) (x : Guarded T) (i : ℕ) (what : P) (so_far new all : List P) →
    i < length xs → x ≡ get_or xs i x → here ≡ (value on (condition_of x.when) && k) → what ≡ form x.what →
    so_far ++ under k (seen on (entries_of form (drop i xs))) ≡ all → new ≡ so_far ++ under here (what ∷ []) →
    new ++ under k (seen on (entries_of form (drop (i + 1) xs))) ≡ all
copied_step {T} {P} form on k here xs x i what so_far new all within is same_here same_what before pushed =
    let e = item_of xs x i within is in
    let before' = rw e at before in
    appended_step k (value on (condition_of x.when)) (form x.what) (seen on (entries_of form (drop (i + 1) xs))) so_far new all before'
    (pushed ∙ ap (λ (b : Bool). so_far ++ under b (what ∷ [])) same_here ∙ ap (λ (w : P). so_far ++ under (value on (condition_of x.when) && k) (w ∷ [])) same_what)

pub copied_end : {T P : Type 0} (form : T → P) (on : ℕ → Bool) (k : Bool) (xs : List (Guarded T)) (i : ℕ) (so_far all : List P) → length xs ≤ i →
    so_far ++ under k (seen on (entries_of form (drop i xs))) ≡ all → so_far ≡ all
copied_end form on k xs i so_far all past is =
    let e = drop_all i xs past in
    let is' = rw e at is in
    sym (nothing_more k so_far) ∙ is'

mapped_by_test : {P Q : Type 0} (gives : P → Q) (t : Bool) (what : P) (rest : List P) (so_far new all : List Q) → so_far ++ map gives (if t then what ∷ rest else rest) ≡ all →
    new ≡ so_far ++ under t (gives what ∷ []) → new ++ map gives rest ≡ all
mapped_by_test {P} {Q} gives true what rest so_far new all before pushed = ap (λ (l : List Q). l ++ map gives rest) pushed ∙ append_assoc so_far (gives what ∷ []) (map gives rest) ∙ before
mapped_by_test {P} {Q} gives false what rest so_far new all before pushed = ap (λ (l : List Q). l ++ map gives rest) (pushed ∙ append-nil so_far) ∙ before

-- one step through a list to which a function is applied
pub mapped_step : {T P Q : Type 0} (form : T → P) (gives : P → Q) (on : ℕ → Bool) (here : Bool) (xs : List (Guarded T)) (x : Guarded T) (i : ℕ) (image : Q) (so_far new all : List Q) →
    i < length xs → x ≡ get_or xs i x → here ≡ value on (condition_of x.when) → image ≡ gives (form x.what) →
    so_far ++ map gives (seen on (entries_of form (drop i xs))) ≡ all → new ≡ so_far ++ under here (image ∷ []) →
    new ++ map gives (seen on (entries_of form (drop (i + 1) xs))) ≡ all
mapped_step {T} {P} {Q} form gives on here xs x i image so_far new all within is same_here same_image before pushed =
    let e = item_of xs x i within is in
    let before' = rw e at before in
    mapped_by_test gives (value on (condition_of x.when)) (form x.what) (seen on (entries_of form (drop (i + 1) xs))) so_far new all before'
    (pushed ∙ ap (λ (b : Bool). so_far ++ under b (image ∷ [])) same_here ∙ ap (λ (w : Q). so_far ++ under (value on (condition_of x.when)) (w ∷ [])) same_image)

pub mapped_end : {T P Q : Type 0} (form : T → P) (gives : P → Q) (on : ℕ → Bool) (xs : List (Guarded T)) (i : ℕ) (so_far all : List Q) → length xs ≤ i →
    so_far ++ map gives (seen on (entries_of form (drop i xs))) ≡ all → so_far ≡ all
mapped_end form gives on xs i so_far all past is =
    let e = drop_all i xs past in
    let is' = rw e at is in
    sym (append-nil so_far) ∙ is'

-- one list where the condition is true, and the other elsewhere
pub chosen_list : {P : Type 0} (k elsewhere : Bool) (empty chosen otherwise mid all : List P) → elsewhere ≡ not k → empty ≡ [] → mid ≡ empty ++ under k chosen → all ≡ mid ++ under elsewhere otherwise →
    all ≡ (if k then chosen else otherwise)
chosen_list {P} true elsewhere empty chosen otherwise mid all e none first second = second ∙ ap (λ (b : Bool). mid ++ under b otherwise) e ∙ append-nil mid ∙ first ∙ ap (λ (l : List P). l ++ chosen) none
chosen_list {P} false elsewhere empty chosen otherwise mid all e none first second =
    second ∙ ap (λ (b : Bool). mid ++ under b otherwise) e ∙ ap (λ (l : List P). l ++ otherwise) (first ∙ append-nil empty ∙ none)

pub with_true : (b : Bool) → b ≡ (b && true)
with_true true = refl
with_true false = refl

-- ---- the first of what is seen

first-append : {P : Type 0} (xs ys : List P) → first (xs ++ ys) ≡ or_later (first xs) (first ys)
first-append [] ys = refl
first-append (x ∷ xs) ys = refl

or_later_assoc : {P : Type 0} (a b c : Option P) → or_later (or_later a b) c ≡ or_later a (or_later b c)
or_later_assoc None b c = refl
or_later_assoc (Some x) b c = refl

-- one more entry
pub first_pushed : {T P : Type 0} (form : T → P) (on : ℕ → Bool) (xs longer : List (Guarded T)) (x : Guarded T) → longer ≡ xs ++ x ∷ [] →
    first (seen on (entries_of form longer)) ≡ or_later (first (seen on (entries_of form xs))) (first (under (value on (condition_of x.when)) (form x.what ∷ [])))
first_pushed form on xs longer x is = ap first (seen_push form on xs longer x is) ∙ first-append (seen on (entries_of form xs)) (under (value on (condition_of x.when)) (form x.what ∷ []))

under_either : {P : Type 0} (s t : Bool) (v : P) → first (under (s || t) (v ∷ [])) ≡ or_later (first (under s (v ∷ []))) (first (under t (v ∷ [])))
under_either true t v = refl
under_either false t v = refl

-- the last entry holds under a further condition
pub first_widened : {T P : Type 0} (form : T → P) (on : ℕ → Bool) (a x : Guarded T) (k : Bool) (what : P) (mid old new : List (Guarded T)) →
    old ≡ mid ++ a ∷ [] → new ≡ mid ++ x ∷ [] → form x.what ≡ form a.what → form a.what ≡ what → value on (condition_of x.when) ≡ (value on (condition_of a.when) || k) →
    first (seen on (entries_of form new)) ≡ or_later (first (seen on (entries_of form old))) (first (under k (what ∷ [])))
first_widened {T} {P} form on a x k what mid old new was is same given either =
    first_pushed form on mid new x is
    ∙ ap (λ (b : Bool). or_later (first (seen on (entries_of form mid))) (first (under b (form x.what ∷ [])))) either
    ∙ ap (λ (v : P). or_later (first (seen on (entries_of form mid))) (first (under (value on (condition_of a.when) || k) (v ∷ [])))) same
    ∙ ap (or_later (first (seen on (entries_of form mid)))) (under_either (value on (condition_of a.when)) k (form a.what))
    ∙ sym (or_later_assoc (first (seen on (entries_of form mid))) (first (under (value on (condition_of a.when)) (form a.what ∷ []))) (first (under k (form a.what ∷ []))))
    ∙ ap (λ (v : P). or_later (or_later (first (seen on (entries_of form mid))) (first (under (value on (condition_of a.when)) (form a.what ∷ [])))) (first (under k (v ∷ [])))) given
    ∙ ap (λ (o : Option P). or_later o (first (under k (what ∷ [])))) (sym (first_pushed form on mid old a was))

-- the first that is seen of an item and what is behind it
pub first_at : {T P : Type 0} (form : T → P) (on : ℕ → Bool) (xs : List (Guarded T)) (x : Guarded T) (i : ℕ) → i < length xs → x ≡ get_or xs i x →
    first (seen on (entries_of form (drop i xs))) ≡ (if value on (condition_of x.when) then Some (form x.what) else first (seen on (entries_of form (drop (i + 1) xs))))
first_at {T} {P} form on xs x i within is = let e = item_of xs x i within is in rw e (by_test (value on (condition_of x.when))) where
  by_test : (t : Bool) → first (if t then form x.what ∷ seen on (entries_of form (drop (i + 1) xs)) else seen on (entries_of form (drop (i + 1) xs)))
      ≡ (if t then Some (form x.what) else first (seen on (entries_of form (drop (i + 1) xs))))
  by_test true = refl
  by_test false = refl

pub first_of_none : {T P : Type 0} (form : T → P) (on : ℕ → Bool) (xs : List (Guarded T)) (i : ℕ) → length xs ≤ i → first (seen on (entries_of form (drop i xs))) ≡ None
first_of_none form on xs i past = let e = drop_all i xs past in rw e refl
