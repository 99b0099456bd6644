-- Places of a list are places of a longer one.
use Rattle.std.proofs.Common.{◌≡◌, ℕ, ◌<◌, ◌≤◌, ◌+◌, ◌-◌, Bool, true, false, ◌&&◌, List, [], ◌∷◌, ◌++◌, length, map, reverse, take, drop, refl, sym, ap, ◌∙◌, arith, length-append}
use Rattle.std.specs.Prelude.{Option, Some, None, if◌then◌else◌}
use Rattle.std.specs.List.{list_all}
use Rattle.std.specs.Str.{bytes_eq}
use Rattle.std.proofs.lemmas.Bool.{and_parts, and_from, ltb-true, lt-ltb}
use Rattle.std.proofs.lemmas.List.{map-append, reverse-append, take-append-drop, length-reverse, length-map, length-drop, drop_at}
use Rattle.core_meaning.specs.Entities.{with_entry}
use Rattle.cond_bindings.specs.declared.unit_bindings.Identifier.{Identifier}
use Rattle.cond_bindings.specs.declared.unit_bindings.Meaning.{Meaning}
use Rattle.cond_bindings.specs.declared.unit_bindings.Meaning.TheVariants.{Use, Declares}
use Rattle.cond_bindings.specs.declared.locals.LocalName.{LocalName}
use Rattle.cond_bindings.specs.Places.{LocalPlace, latest_first, local_place, innermost_in, is_below, meaning_below, identifier_below, local_below, TableBelow, IdentifiersBelow, LocalsBelow}

and_assoc : (a b c : Bool) → ((a && b) && c) ≡ (a && (b && c))
and_assoc true b c = refl
and_assoc false b c = refl

-- ---- lists of which each element passes a test

pub all_weaker : {A : Type 0} (p q : A → Bool) → ((x : A) → p x ≡ true → q x ≡ true) → (xs : List A) → list_all p xs ≡ true → list_all q xs ≡ true
all_weaker p q h [] each = refl
all_weaker p q h (x ∷ xs) each =
    let parts = and_parts (p x) (list_all p xs) each in
    and_from (q x) (list_all q xs) (h x parts.0) (all_weaker p q h xs parts.1)

pub all_append : {A : Type 0} (p : A → Bool) (xs ys : List A) → list_all p (xs ++ ys) ≡ (list_all p xs && list_all p ys)
all_append p [] ys = refl
all_append p (x ∷ xs) ys = ap (λ b. p x && b) (all_append p xs ys) ∙ sym (and_assoc (p x) (list_all p xs) (list_all p ys))

pub all_mapped : {A B : Type 0} (p : A → Bool) (f g : A → B) → ((x : A) → p x ≡ true → f x ≡ g x) → (xs : List A) → list_all p xs ≡ true → map f xs ≡ map g xs
all_mapped p f g h [] each = refl
all_mapped p f g h (x ∷ xs) each =
    let parts = and_parts (p x) (list_all p xs) each in
    ap (λ y. y ∷ map f xs) (h x parts.0) ∙ ap (λ ys. g x ∷ ys) (all_mapped p f g h xs parts.1)

-- ---- places

pub place_longer : (n m : ℕ) (place : Option ℕ) → n ≤ m → is_below n place ≡ true → is_below m place ≡ true
place_longer n m None le below = refl
place_longer n m (Some place) le below = lt-ltb place m (omega (arith, ltb-true place n below))

meaning_longer : (n m : ℕ) (meaning : Meaning) → n ≤ m → meaning_below n meaning ≡ true → meaning_below m meaning ≡ true
meaning_longer n m (Use block file) le below =
    let parts = and_parts (is_below n block) (is_below n file) below in
    and_from (is_below m block) (is_below m file) (place_longer n m block le parts.0) (place_longer n m file le parts.1)
meaning_longer n m (Declares earlier) le below = place_longer n m earlier le below

pub table_longer : (n m : ℕ) (table : List ℕ → Option ℕ) → n ≤ m → TableBelow n table → TableBelow m table
table_longer n m table le below = λ name. place_longer n m (table name) le (below name)

pub identifiers_longer : (n m : ℕ) (identifiers : List Identifier) → n ≤ m → IdentifiersBelow n identifiers → IdentifiersBelow m identifiers
identifiers_longer n m identifiers le below = all_weaker (identifier_below n) (identifier_below m) (λ i. meaning_longer n m i.meaning le) identifiers below

pub locals_longer : (n m : ℕ) (locals : List LocalPlace) → n ≤ m → list_all (local_below n) locals ≡ true → list_all (local_below m) locals ≡ true
locals_longer n m locals le below = all_weaker (local_below n) (local_below m) (λ l. place_longer n m (Some l.place) le) locals below

-- ---- after a change

chosen_below : (n : ℕ) (b : Bool) (x y : Option ℕ) → is_below n x ≡ true → is_below n y ≡ true → is_below n (if b then x else y) ≡ true
chosen_below n true x y hx hy = hx
chosen_below n false x y hx hy = hy

-- the new declaration is behind the others
pub table_entered : (n m : ℕ) (table : List ℕ → Option ℕ) (name : List ℕ) → n < m → TableBelow n table → TableBelow m (with_entry table name n)
table_entered n m table name lt below =
    λ other. chosen_below m (bytes_eq other name) (Some n) (table other) (lt-ltb n m lt) (place_longer n m (table other) (omega arith) (below other))

pub locals_entered : (n m : ℕ) (l : LocalPlace) (locals : List LocalPlace) → l.place ≡ n → n < m → list_all (local_below n) locals ≡ true → list_all (local_below m) (l ∷ locals) ≡ true
locals_entered n m l locals is lt below =
    and_from (local_below m l) (list_all (local_below m) locals) (lt-ltb l.place m (omega arith)) (locals_longer n m locals (omega arith) below)

identifiers_noted : (n : ℕ) (identifiers : List Identifier) (i : Identifier) → IdentifiersBelow n identifiers → meaning_below n i.meaning ≡ true → IdentifiersBelow n (identifiers ++ i ∷ [])
identifiers_noted n identifiers i below one =
    all_append (identifier_below n) identifiers (i ∷ [])
    ∙ and_from (list_all (identifier_below n) identifiers) (list_all (identifier_below n) (i ∷ [])) below (and_from (identifier_below n i) true one refl)

pub identifiers_noted_if : (n : ℕ) (b : Bool) (identifiers : List Identifier) (i : Identifier) → IdentifiersBelow n identifiers → meaning_below n i.meaning ≡ true → IdentifiersBelow n (if b then identifiers ++ i ∷ [] else identifiers)
identifiers_noted_if n true identifiers i below one = identifiers_noted n identifiers i below one
identifiers_noted_if n false identifiers i below one = below

pub innermost_below : (n : ℕ) (locals : List LocalPlace) (name : List ℕ) → list_all (local_below n) locals ≡ true → is_below n (innermost_in locals name) ≡ true
innermost_below n [] name below = refl
innermost_below n (l ∷ outer) name below =
    let parts = and_parts (local_below n l) (list_all (local_below n) outer) below in
    chosen_below n (bytes_eq name l.name) (Some l.place) (innermost_in outer name) parts.0 (innermost_below n outer name parts.1)

-- ---- names that are left

-- the latest, and the others behind them
latest_split : (kept : ℕ) (locals : List LocalName) → latest_first locals ≡ latest_first (drop kept locals) ++ latest_first (take kept locals)
latest_split kept locals =
    ap (λ (ls : List LocalName). latest_first ls) (sym (take-append-drop kept locals))
    ∙ ap reverse (map-append local_place (take kept locals) (drop kept locals))
    ∙ reverse-append (map local_place (take kept locals)) (map local_place (drop kept locals))

length_latest : (locals : List LocalName) → length (latest_first locals) ≡ length locals
length_latest locals = length-reverse (map local_place locals) ∙ length-map locals local_place

pub locals_left : (n kept : ℕ) (locals : List LocalName) → LocalsBelow n locals → LocalsBelow n (take kept locals)
locals_left n kept locals below =
    let test = local_below n in
    let latest = latest_first (drop kept locals) in
    let others = latest_first (take kept locals) in
    (and_parts (list_all test latest) (list_all test others) (sym (all_append test latest others) ∙ ap (list_all test) (sym (latest_split kept locals)) ∙ below)).1

-- what stands for the names that are left
pub left_outer : {B : Type 0} (f : LocalPlace → B) (kept : ℕ) (locals : List LocalName) (more outer : List B) → length outer ≡ kept → map f (latest_first locals) ≡ more ++ outer → map f (latest_first (take kept locals)) ≡ outer
left_outer f kept locals more outer count is =
    let latest = latest_first (drop kept locals) in
    let others = latest_first (take kept locals) in
    let parts = ap (map f) (latest_split kept locals) ∙ map-append f latest others in
    let whole : length locals ≡ length more + kept =
    sym (length-map (latest_first locals) f ∙ length_latest locals) ∙ ap length is ∙ length-append more outer ∙ ap (λ n. length more + n) count in
    let front : length (map f latest) ≡ length locals - kept = length-map latest f ∙ length_latest (drop kept locals) ∙ length-drop kept locals in
    let long : length (map f latest) ≡ length more = omega (arith, whole, front) in
    sym (drop_at (map f latest) (map f others) (length more) long) ∙ ap (drop (length more)) (sym parts ∙ is) ∙ drop_at more outer (length more) refl
