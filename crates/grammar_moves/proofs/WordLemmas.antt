-- What words begin lists of words.
use Rattle.std.proofs.Common.{◌≡◌, ℕ, suc, ◌+◌, ◌<◌, ◌≤◌, Bool, true, false, ◌&&◌, ◌||◌, List, [], ◌∷◌, ◌++◌, length, map, drop, get_or, Option, Some, None, refl, sym, ap, ◌∙◌, arith, length-append, nat_le, inl, inr, IsTrue}
use Rattle.std.specs.List.{list_any, list_all, flat_map, slice_get}
use Rattle.std.proofs.lemmas.List.Folds.{list_any-append}
use Rattle.std.specs.Option.{option_map_or}
use Rattle.std.proofs.lemmas.Bool.{leb-true}
use Rattle.std.proofs.lemmas.List.{drop_more, drop_all}
use Rattle.std.proofs.lemmas.Option.{slice_get_within, slice_get-get_or, get_or_from_slice_get, slice_get_cases}
use Rattle.c_tree.specs.declared.terminals.Terminal.{Terminal}
use Rattle.c_tree.specs.Terminals.{same}
use Rattle.c_tree.specs.Places.{goes_on, are_same, wordings}
use Rattle.grammar_moves.specs.declared.words.Wording.{Wording}
use Rattle.grammar_moves.specs.declared.words.Wording.TheVariants as wording
use Rattle.grammar_moves.specs.PlainPlaces.{plain_wording}
use Rattle.grammar_moves.specs.WordLists.{storages_of, types_of}

-- lists are the same if one begins with the other and both are as long
never : (b : Bool) → b && false ≡ false
never true = refl
never false = refl

pub same-length : (a b : List Terminal) → length a ≡ length b → goes_on a b ≡ are_same a b
same-length [] [] as_long = refl
same-length [] (y ∷ ys) as_long = absurd (omega arith)
same-length (x ∷ xs) [] as_long = refl
same-length (x ∷ xs) (y ∷ ys) as_long = ap (λ b. same x y && b) (same-length xs ys (omega arith))

pub other-length : (a b : List Terminal) → (length a ≡ length b → ⊥) → are_same a b ≡ false
other-length [] [] differ = absurd (differ refl)
other-length [] (y ∷ ys) differ = refl
other-length (x ∷ xs) [] differ = refl
other-length (x ∷ xs) (y ∷ ys) differ = rw (other-length xs ys (λ e. differ (ap suc e))) (never (same x y))

-- a test of lists that are two lists, one behind the other
any_mapped : {A B : Type 0} (p : B → Bool) (f : A → B) (xs : List A) → list_any p (map f xs) ≡ list_any (λ x. p (f x)) xs
any_mapped p f [] = refl
any_mapped p f (x ∷ xs) = ap (λ b. p (f x) || b) (any_mapped p f xs)

pub any_joined :
    {A : Type 0} (p : List Terminal → Bool) (v : A → List Terminal) (firsts seconds : List A)
    → list_any (λ first. list_any (λ second. p (v first ++ v second)) seconds) firsts
    ≡ list_any p (flat_map (λ first. map (λ second. first ++ second) (map v seconds)) (map v firsts))
any_joined p v [] seconds = refl
any_joined p v (first ∷ firsts) seconds =
    let inner = any_mapped p (λ second. v first ++ second) (map v seconds) ∙ any_mapped (λ second. p (v first ++ second)) v seconds in
    sym (list_any-append p (map (λ second. v first ++ second) (map v seconds)) (flat_map (λ first. map (λ second. first ++ second) (map v seconds)) (map v firsts))
    ∙ ap (λ b. b || list_any p (flat_map (λ first. map (λ second. first ++ second) (map v seconds)) (map v firsts))) inner
    ∙ ap (λ b. list_any (λ second. p (v first ++ v second)) seconds || b) (sym (any_joined p v firsts seconds)))

pub wordings-joined : (w : Wording) → wordings (plain_wording w) ≡ flat_map (λ first. map (λ second. first ++ second) (types_of w)) (storages_of w)
wordings-joined wording.Cast = refl
wordings-joined wording.Type = refl
wordings-joined wording.File = refl

-- the list from a place on, by what is there
pub drop-there : {A : Type 0} (xs : List A) (i : ℕ) (x : A) → slice_get xs i ≡ Some x → drop i xs ≡ x ∷ drop (i + 1) xs
drop-there xs i x there =
    drop_more xs i x (slice_get_within xs i x there) ∙ ap (λ y. y ∷ drop (i + 1) xs) (get_or_from_slice_get xs i x x there)

drop_none : {A : Type 0} (xs : List A) (i : ℕ) → slice_get xs i ≡ None → drop i xs ≡ []
drop_none xs i past = elim (slice_get_cases xs i).1 [
  | inl there ↦ absurd (let none = past in let some = there.2 in cc)
  | inr gone ↦ drop_all i xs gone.0
]

-- one word further in both lists
pub goes_on-step :
    (words whole : List Terminal) (i : ℕ) (word : Terminal) → slice_get words i ≡ Some word
    → goes_on (drop i words) (drop i whole) ≡ option_map_or (same word) (slice_get whole i) false && goes_on (drop (i + 1) words) (drop (i + 1) whole)
goes_on-step words whole i word there = rw (drop-there words i word there) (at_other (slice_get whole i) refl)
  where
    at_other :
        (other : Option Terminal) → slice_get whole i ≡ other
        → goes_on (word ∷ drop (i + 1) words) (drop i whole) ≡ option_map_or (same word) other false && goes_on (drop (i + 1) words) (drop (i + 1) whole)
    at_other None e = rw (drop_none whole i e) refl
    at_other (Some other) e = rw (drop-there whole i other e) refl

-- the same with what the loop knows
pub step_holds :
    (words whole : List Terminal) (i : ℕ) (d : Terminal) (r g : Bool) → i < length words
    → r ≡ option_map_or (same (get_or words i d)) (slice_get whole i) false → r ≡ true
    → g ≡ goes_on (drop i words) (drop i whole) → g ≡ goes_on (drop (i + 1) words) (drop (i + 1) whole)
step_holds words whole i d r g within is holds so_far =
    let next = goes_on-step words whole i (get_or words i d) (slice_get-get_or words i d within) in
    so_far ∙ next ∙ ap (λ b. b && goes_on (drop (i + 1) words) (drop (i + 1) whole)) (sym is ∙ holds)

pub step_fails :
    (words whole : List Terminal) (i : ℕ) (d : Terminal) (r g : Bool) → i < length words
    → r ≡ option_map_or (same (get_or words i d)) (slice_get whole i) false → r ≡ false
    → g ≡ goes_on (drop i words) (drop i whole) → g ≡ false
step_fails words whole i d r g within is fails so_far =
    let next = goes_on-step words whole i (get_or words i d) (slice_get-get_or words i d within) in
    so_far ∙ next ∙ ap (λ b. b && goes_on (drop (i + 1) words) (drop (i + 1) whole)) (sym is ∙ fails)

-- no list of words is longer than 5
goes_on-longer : (a b : List Terminal) → length b < length a → goes_on a b ≡ false
goes_on-longer [] b long = absurd (omega arith)
goes_on-longer (x ∷ xs) [] long = refl
goes_on-longer (x ∷ xs) (y ∷ ys) long = rw (goes_on-longer xs ys (omega arith)) (never (same x y))

both_true : (x y : Bool) → x && y ≡ true → (x ≡ true) × (y ≡ true)
both_true true true e = (refl, refl)
both_true true false e = absurd cc
both_true false y e = absurd cc

none_goes_on : (a : List Terminal) (lists : List (List Terminal)) → 5 < length a → IsTrue (list_all (λ l. nat_le (length l) 5) lists) → list_any (goes_on a) lists ≡ false
none_goes_on a [] long short = refl
none_goes_on a (first ∷ rest) long short =
    let parts = both_true (nat_le (length first) 5) (list_all (λ l. nat_le (length l) 5) rest) short in
    let within : length first ≤ 5 = leb-true (length first) 5 parts.0 in
    rw (goes_on-longer a first (omega arith)) (none_goes_on a rest long parts.1)

pub full-goes_on : (w : Wording) (words : List Terminal) (word : Terminal) → length words ≡ 5 → list_any (goes_on (words ++ word ∷ [])) (wordings (plain_wording w)) ≡ false
full-goes_on w words word full = none_goes_on (words ++ word ∷ []) (wordings (plain_wording w)) (omega (arith, length-append words (word ∷ []))) (are_short w)
  where
    are_short : (w : Wording) → IsTrue (list_all (λ l. nat_le (length l) 5) (wordings (plain_wording w)))
    are_short wording.Cast = refl
    are_short wording.Type = refl
    are_short wording.File = refl
