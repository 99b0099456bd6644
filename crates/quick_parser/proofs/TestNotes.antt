-- The names that a state keeps are the tested names, in the order of their first tests.
use Rattle.std.proofs.Common.{◌≡◌, ℕ, ◌≤◌, ◌<◌, Bool, true, false, not, ◌&&◌, ◌||◌, List, [], ◌∷◌, ◌++◌, length, Option, Some, None, refl, ap, ◌∙◌, sym, arith, append_assoc, append-nil, length-append}
use Rattle.std.proofs.lemmas.Bool.{ltb-true, lt-ltb}
use Rattle.std.proofs.lemmas.List.Folds.{list_any-append}
use Rattle.std.proofs.lemmas.Slice.Eq.{bytes_eq-Decides}
use Rattle.std.specs.Prelude.{option_and_then, if◌then◌else◌, filter, nat_lt}
use Rattle.std.specs.List.{list_any}
use Rattle.std.specs.Str.{bytes_eq}
use Rattle.quick_form.specs.Symbols.{Symbol, Ifdef, tested_names}
use Rattle.quick_parser.specs.Steps.{with_test, has_room, noted}

-- the names tested by symbols, noted behind those of ns
abbrev pub tests_of : List (List ℕ) → List Symbol → List (List ℕ)
tests_of ns [] = ns
tests_of ns (Ifdef n ∷ ks) = tests_of (with_test ns n) ks
tests_of ns (k ∷ ks) = tests_of ns ks

abbrev pub notes : List (List ℕ) → List Symbol → Option (List (List ℕ))
notes ns [] = Some ns
notes ns (k ∷ ks) = option_and_then (λ ms. notes ms ks) (noted ns k)

-- two filters are one
filter_head :
    {X : Type 0} (p : X → Bool) (x : X) (ys zs : List X) (b c : Bool) → p x ≡ c → filter p ys ≡ zs
    → filter p (if b then x ∷ ys else ys) ≡ (if b && c then x ∷ zs else zs)
filter_head p x ys zs true true e h = rw e (ap (λ l. x ∷ l) h)
filter_head p x ys zs true false e h = rw e h
filter_head p x ys zs false c e h = h

filter-filter :
    {X : Type 0} (p q r : X → Bool) → ((x : X) → r x ≡ (q x && p x)) → (xs : List X)
    → filter p (filter q xs) ≡ filter r xs
filter-filter p q r h [] = refl
filter-filter p q r h (x ∷ xs) =
    rw (h x) (filter_head p x (filter q xs) (filter r xs) (q x) (p x) refl (filter-filter p q r h xs))

abbrev is_absent : List (List ℕ) → List ℕ → Bool
is_absent ns m = not (list_any (bytes_eq m) ns)

-- what is absent from ns, where n is there, isn't n
absent_other :
    (ns : List (List ℕ)) (n : List ℕ) → list_any (bytes_eq n) ns ≡ true → (m : List ℕ) (b : Bool) → bytes_eq m n ≡ b
    → is_absent ns m ≡ (not b && is_absent ns m)
absent_other ns n here m true e = let same : m ≡ n = (bytes_eq-Decides m n).0 e in rw (same, here) refl
absent_other ns n here m false e = refl

not_or : (a b : Bool) → not (a || (b || false)) ≡ (not b && not a)
not_or true true = refl
not_or true false = refl
not_or false true = refl
not_or false false = refl

-- a further test, and then those of the list ts
test_first :
    (ns : List (List ℕ)) (n : List ℕ) (ts : List (List ℕ)) (b : Bool) → list_any (bytes_eq n) ns ≡ b
    → (if b then ns else ns ++ n ∷ []) ++ filter (is_absent (if b then ns else ns ++ n ∷ [])) ts
    ≡ ns ++ filter (is_absent ns) (n ∷ filter (λ m. not (bytes_eq m n)) ts)
test_first ns n ts true here =
    rw here
    (ap (λ l. ns ++ l)
    (sym
    (filter-filter (is_absent ns) (λ m. not (bytes_eq m n)) (is_absent ns)
    (λ m. absent_other ns n here m (bytes_eq m n) refl) ts)))
test_first ns n ts false new =
    rw (append_assoc, new)
    (ap (λ l. ns ++ (n ∷ l))
    (sym
    (filter-filter (is_absent ns) (λ m. not (bytes_eq m n)) (is_absent (ns ++ n ∷ []))
    (λ m. ap not (list_any-append (bytes_eq m) ns (n ∷ [])) ∙ not_or (list_any (bytes_eq m) ns) (bytes_eq m n)) ts)))

tests_of-filter :
    (ks : List Symbol) (ns : List (List ℕ)) → tests_of ns ks ≡ ns ++ filter (is_absent ns) (tested_names ks)
tests_of-filter [] ns = sym (append-nil ns)
tests_of-filter (Ifdef n ∷ ks) ns =
    tests_of-filter ks (with_test ns n) ∙ test_first ns n (tested_names ks) (list_any (bytes_eq n) ns) refl
tests_of-filter (_ ∷ ks) ns = tests_of-filter ks ns

filter_all : {X : Type 0} (xs : List X) → filter (λ _. true) xs ≡ xs
filter_all [] = refl
filter_all (x ∷ xs) = ap (λ l. x ∷ l) (filter_all xs)

pub tests_of-nil : (ks : List Symbol) → tests_of [] ks ≡ tested_names ks
tests_of-nil ks = tests_of-filter ks [] ∙ filter_all (tested_names ks)

grows : (ks : List Symbol) (ns : List (List ℕ)) → length ns ≤ length (tests_of ns ks)
grows ks ns = rw (tests_of-filter ks ns) (omega (arith, length-append ns (filter (is_absent ns) (tested_names ks))))

-- what is noted
note_told :
    (b : Bool) (x ms : List (List ℕ)) (F : List (List ℕ) → Option (List (List ℕ)))
    → option_and_then F (if b then Some x else None) ≡ Some ms → (b ≡ true) × (F x ≡ Some ms)
note_told true x ms F e = (refl, e)
note_told false x ms F e = absurd cc

-- the room for a test
room_told :
    (ns : List (List ℕ)) (n : List ℕ) (b : Bool) → (b || nat_lt (length ns) 128) ≡ true → length ns ≤ 128
    → length (if b then ns else ns ++ n ∷ []) ≤ 128
room_told ns n true e h = h
room_told ns n false e h =
    let few : length ns < 128 = ltb-true (length ns) 128 e in omega (arith, length-append ns (n ∷ []))

room_left :
    (ns : List (List ℕ)) (n : List ℕ) (b : Bool) → length (if b then ns else ns ++ n ∷ []) ≤ 128
    → (b || nat_lt (length ns) 128) ≡ true
room_left ns n true h = refl
room_left ns n false h = lt-ltb (length ns) 128 (omega (arith, length-append ns (n ∷ [])))

pub notes_told :
    (ks : List Symbol) (ns ms : List (List ℕ)) → notes ns ks ≡ Some ms → length ns ≤ 128
    → (ms ≡ tests_of ns ks) × (length ms ≤ 128)
notes_told [] ns ms e h = let same : ms ≡ ns = cc in (same, rw same h)
notes_told (Ifdef n ∷ ks) ns ms e h =
    let t = note_told (has_room ns n) (with_test ns n) ms (λ l. notes l ks) e in
    notes_told ks (with_test ns n) ms t.1 (room_told ns n (list_any (bytes_eq n) ns) t.0 h)
notes_told (_ ∷ ks) ns ms e h = notes_told ks ns ms e h

pub notes_fit :
    (ks : List Symbol) (ns : List (List ℕ)) → length (tests_of ns ks) ≤ 128 → notes ns ks ≡ Some (tests_of ns ks)
notes_fit [] ns h = refl
notes_fit (Ifdef n ∷ ks) ns h =
    let g : length (with_test ns n) ≤ length (tests_of (with_test ns n) ks) = grows ks (with_test ns n) in
    let few : length (with_test ns n) ≤ 128 = omega arith in
    rw (room_left ns n (list_any (bytes_eq n) ns) few) (notes_fit ks (with_test ns n) h)
notes_fit (_ ∷ ks) ns h = notes_fit ks ns h
