-- Numbers of names, one name more at a time.
use Rattle.std.proofs.Common.{◌≡◌, ℕ, suc, ◌+◌, ◌<◌, Bool, true, false, ◌||◌, List, [], ◌∷◌, ◌++◌, map, length, get_or, drop, take, ⊎_elim, refl, sym, ap, subst, ◌∙◌, add-one, add-zero, drop-cons, arith}
use Rattle.std.specs.Prelude.{Option, Some, None, filter, if◌then◌else◌}
use Rattle.std.specs.List.{list_any}
use Rattle.std.specs.Str.{bytes_eq}
use Rattle.std.specs.Cmp.Lexicographic.{bytes_decides, nat_list_eq_equiv}
use Rattle.std.proofs.lemmas.Bool.{cases_Bool}
use Rattle.std.proofs.lemmas.List.Folds.{list_any-append}
use Rattle.std.proofs.lemmas.List.Elements.{filter-append}
use Rattle.core_meaning.specs.Linking.{Unit, Linked, linked_in, is_wanted, same_linked, place_where, added_once, each_once}
use Rattle.std.proofs.lemmas.List.{take_more, map-append}
use Rattle.plain_scope.specs.declared.entities.Numbers.{Numbers}
use Rattle.plain_numbers.specs.Numbering.{number_for, with_number, UnitNumbered, AreNumbered}

pub drop_at : {A : Type 0} (xs : List A) (i : ℕ) (x : A) → i < length xs → x ≡ get_or xs i x → drop i xs ≡ x ∷ drop (i + 1) xs
drop_at xs i x h e = rw add-one (drop-cons xs i x h ∙ ap (λ y. y ∷ drop (suc i) xs) (sym e))

pub each_once_both : (known xs ys : List Linked) → each_once (each_once known xs) ys ≡ each_once known (xs ++ ys)
each_once_both known [] ys = refl
each_once_both known (x ∷ xs) ys = each_once_both (added_once known x) xs ys

or_none : (a : Bool) → (a || false) ≡ a
or_none true = refl
or_none false = refl

any_more : (wanted : List ℕ → Bool) (names : List (List ℕ)) (name q : List ℕ) → list_any (bytes_eq q) (filter wanted (names ++ name ∷ [])) ≡ (list_any (bytes_eq q) (filter wanted names) || list_any (bytes_eq q) (filter wanted (name ∷ [])))
any_more wanted names name q =
    ap (list_any (bytes_eq q)) (filter-append wanted names (name ∷ [])) ∙ list_any-append (bytes_eq q) (filter wanted names) (filter wanted (name ∷ []))

any_unwanted : (wanted : List ℕ → Bool) (names : List (List ℕ)) (name q : List ℕ) → wanted name ≡ false → list_any (bytes_eq q) (filter wanted (names ++ name ∷ [])) ≡ list_any (bytes_eq q) (filter wanted names)
any_unwanted wanted names name q h =
    any_more wanted names name q ∙ (rw h (or_none (list_any (bytes_eq q) (filter wanted names))))

any_wanted : (wanted : List ℕ → Bool) (names : List (List ℕ)) (name q : List ℕ) → wanted name ≡ true → list_any (bytes_eq q) (filter wanted (names ++ name ∷ [])) ≡ (list_any (bytes_eq q) (filter wanted names) || bytes_eq q name)
any_wanted wanted names name q h =
    any_more wanted names name q ∙ (rw h (ap (λ b. list_any (bytes_eq q) (filter wanted names) || b) (or_none (bytes_eq q name))))

with_here : (seen bq : Bool) (p o : Option ℕ) (numbers : List ℕ → Option ℕ) (name q : List ℕ) → bq ≡ true → bytes_eq name q ≡ true → o ≡ p → numbers q ≡ (if seen then p else None) → (if seen || bq then p else None) ≡ with_number o numbers name q
with_here true bq p None numbers name q b t e n = sym n
with_here false bq p None numbers name q b t e n = rw b (sym e ∙ sym n)
with_here true bq p (Some k) numbers name q b t e n = rw t (sym e)
with_here false bq p (Some k) numbers name q b t e n = rw (b, t) (sym e)

with_there : (seen bq : Bool) (p o : Option ℕ) (numbers : List ℕ → Option ℕ) (name q : List ℕ) → bq ≡ false → bytes_eq name q ≡ false → numbers q ≡ (if seen then p else None) → (if seen || bq then p else None) ≡ with_number o numbers name q
with_there true bq p None numbers name q b t n = sym n
with_there false bq p None numbers name q b t n = rw b (sym n)
with_there true bq p (Some k) numbers name q b t n = rw t (sym n)
with_there false bq p (Some k) numbers name q b t n = rw (b, t) (sym n)

pub number_unwanted : (known : List Linked) (units : List Unit) (functions : Bool) (index : ℕ) (unit : Unit) (names : List (List ℕ)) (name q : List ℕ) → is_wanted units functions unit name ≡ false → number_for known units functions index unit (names ++ name ∷ []) q ≡ number_for known units functions index unit names q
number_unwanted known units functions index unit names name q h =
    ap (λ b. if b then place_where (same_linked (linked_in index unit q)) known else None) (any_unwanted (is_wanted units functions unit) names name q h)

pub number_wanted : (known : List Linked) (units : List Unit) (functions : Bool) (index : ℕ) (unit : Unit) (names : List (List ℕ)) (name q : List ℕ) → is_wanted units functions unit name ≡ true → number_for known units functions index unit (names ++ name ∷ []) q ≡ with_number (place_where (same_linked (linked_in index unit name)) known) (number_for known units functions index unit names) name q
number_wanted known units functions index unit names name q h =
    ap (λ b. if b then place_where (same_linked (linked_in index unit q)) known else None) (any_wanted (is_wanted units functions unit) names name q h)
    ∙ ⊎_elim
    (λ (t : bytes_eq name q ≡ true).
    with_here (list_any (bytes_eq q) (filter (is_wanted units functions unit) names)) (bytes_eq q name)
    (place_where (same_linked (linked_in index unit q)) known) (place_where (same_linked (linked_in index unit name)) known)
    (number_for known units functions index unit names) name q
    (nat_list_eq_equiv.symm q name ∙ t) t (ap (λ n. place_where (same_linked (linked_in index unit n)) known) ((bytes_decides name q).0 t)) refl)
    (λ (t : bytes_eq name q ≡ false).
    with_there (list_any (bytes_eq q) (filter (is_wanted units functions unit) names)) (bytes_eq q name)
    (place_where (same_linked (linked_in index unit q)) known) (place_where (same_linked (linked_in index unit name)) known)
    (number_for known units functions index unit names) name q
    (nat_list_eq_equiv.symm q name ∙ t) t refl)
    (cases_Bool (bytes_eq name q))

pub with_number_same : (o : Option ℕ) (a b : List ℕ → Option ℕ) (name q : List ℕ) → a q ≡ b q → with_number o a name q ≡ with_number o b name q
with_number_same None a b name q same = same
with_number_same (Some n) a b name q same = ap (λ x. if bytes_eq name q then Some n else x) same

pub numbered_more : (units : List Unit) (j : ℕ) (ns : List Numbers) (us : List Unit) (n : Numbers) (u : Unit) → AreNumbered units j ns us → UnitNumbered units (j + length us) n u → AreNumbered units j (ns ++ n ∷ []) (us ++ u ∷ [])
numbered_more units j [] [] n u h k = (rw add-zero at k, tt)
numbered_more units j [] (v ∷ us) n u h k = absurd h
numbered_more units j (m ∷ ns) [] n u h k = absurd h
numbered_more units j (m ∷ ns) (v ∷ us) n u h k =
    (h.0, numbered_more units (j + 1) ns us n u h.1 (subst (λ i. UnitNumbered units i n u) (behind j (length us)) k))
  where
    behind : (j m : ℕ) → j + suc m ≡ (j + 1) + m
    behind j m = omega arith

pub numbers_taken : {A B : Type 0} (f : A → B) (xs : List A) (i : ℕ) (x : A) → i < length xs → x ≡ get_or xs i x → map f (take (i + 1) xs) ≡ map f (take i xs) ++ f x ∷ []
numbers_taken f xs i x h e =
    ap (map f) (take_more xs i x h ∙ ap (λ y. take i xs ++ y ∷ []) (sym e)) ∙ map-append f (take i xs) (x ∷ [])
