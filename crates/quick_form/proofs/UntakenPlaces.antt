-- A file that is taken has no place of `not quick`.
use Rattle.std.proofs.Common.{◌≡◌, ℕ, ◌||◌, Bool, true, false, cond, List, [], ◌∷◌, Option, Some, None, refl, sym, ap, ◌∙◌, subst}
use Rattle.std.specs.List.{list_any}
use Rattle.std.specs.Str.{bytes_eq}
use Rattle.std.proofs.lemmas.Bool.{both_ways, or_parts}
use Rattle.quick_form.specs.Symbols.{Symbol, symbols_of, tested_names, uses, mentions}
use Rattle.quick_form.specs.Form.{Items, IsForm, declared_names}
use Rattle.quick_form.specs.Places.{Placed, placed_symbols, first_name, faulty_form, new_occurs, tested_occurs, old_undeclared, TakenHasNoPlace}
use Rattle.quick_form.proofs.PlaceLemmas.{spelled, placed_symbols_are_spelled_lem, form_faultless, some_none}
use Rattle.quick_form.proofs.Reading.{one_reading_lem}

pub any_never : {X : Type 0} (xs : List X) → list_any (λ (x : X). false) xs ≡ false
any_never [] = refl
any_never (x ∷ xs) = any_never xs

or_shuffle : (a b c d : Bool) → ((a || b) || (c || d)) ≡ ((a || c) || (b || d))
or_shuffle true b c d = refl
or_shuffle false true true d = refl
or_shuffle false true false d = refl
or_shuffle false false true d = refl
or_shuffle false false false d = refl

any_or : {X : Type 0} (f g : X → Bool) (xs : List X) → list_any (λ x. f x || g x) xs ≡ (list_any f xs || list_any g xs)
any_or f g [] = refl
any_or f g (x ∷ xs) = ap (λ b. (f x || g x) || b) (any_or f g xs) ∙ or_shuffle (f x) (g x) (list_any f xs) (list_any g xs)

-- some name is some symbol's, whichever is asked first
pub any_swap : (ns : List (List ℕ)) (ks : List Symbol) → list_any (λ n. list_any (uses n) ks) ns ≡ list_any (λ k. list_any (λ n. uses n k) ns) ks
any_swap ns [] = any_never ns
any_swap ns (k ∷ ks) =
    any_or (λ n. uses n k) (λ n. list_any (uses n) ks) ns ∙ ap (λ b. list_any (λ n. uses n k) ns || b) (any_swap ns ks)

first_if : (t : Bool) (i : ℕ) (o : Option ℕ) → t ≡ false → o ≡ None → cond t (Some i) o ≡ None
first_if true i o e h = absurd (both_ways true e refl)
first_if false i o e h = h

first_none : (p : Symbol → Bool) (ks : List Placed) → list_any p (spelled ks) ≡ false → first_name p ks ≡ None
first_none p [] h = refl
first_none p (k ∷ ks) h =
    let q = or_parts (p k.symbol) (list_any p (spelled ks)) h in
    first_if (p k.symbol) _ (first_name p ks) q.0 (first_none p ks q.1)

none_there : (p : Symbol → Bool) (bytes : List ℕ) → list_any p (symbols_of bytes) ≡ false → first_name p (placed_symbols bytes) ≡ None
none_there p bytes h = first_none p (placed_symbols bytes) (ap (list_any p) (placed_symbols_are_spelled_lem bytes) ∙ h)

declared_again : (old bytes : List ℕ) (f g : IsForm bytes) → list_any (bytes_eq old) (declared_names f.written.items) ≡ true → list_any (bytes_eq old) (declared_names g.written.items) ≡ true
declared_again old bytes f g h =
    let same = one_reading_lem bytes f.written.items g.written.items f.written.writes g.written.writes in
    subst (λ (i : Items). list_any (bytes_eq old) (declared_names i) ≡ true) same h

pub taken_has_no_place_lem : TakenHasNoPlace
taken_has_no_place_lem old new bytes i t (faulty_form a) = form_faultless bytes i t.form a
taken_has_no_place_lem old new bytes i t (new_occurs a) = some_none _ i a.first (none_there (mentions new) bytes t.unused)
taken_has_no_place_lem old new bytes i t (tested_occurs a) =
    let names = tested_names (symbols_of bytes) in
    some_none _ i a.first (none_there (λ k. list_any (λ n. uses n k) names) bytes (sym (any_swap names (symbols_of bytes)) ∙ t.apart))
taken_has_no_place_lem old new bytes i t (old_undeclared a) = both_ways _ a.undeclared (declared_again old bytes t.form a.form t.declared)
