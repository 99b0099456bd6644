-- Keywords are found among those with the same first byte.
use Rattle.std.proofs.Common.{◌≡◌, ℕ, ◌<◌, ◌==◌, length, get_or, map, Bool, true, false, ◌||◌, ◌&&◌, cond, List, [], ◌∷◌, refl, sym, ap, ◌∙◌, inl, inr, arith}
use Rattle.std.specs.List.{list_any, list_all, filter}
use Rattle.std.specs.Str.{bytes_eq}
use Rattle.std.proofs.lemmas.Bool.{both_ways, ne_eqb, eqb-true, eqb-false, and_parts, or_parts, or_cases, cond-false}
use Rattle.c_names.specs.Names.{keywords, is_keyword}
use Rattle.c_names.specs.Keywords.{begins_with, keywords_from}

-- a word is among the words that begin with its first byte, or among none
any-begins_as : (b : ℕ) (w k : List ℕ) (ks : List (List ℕ)) (t : Bool) → begins_with b k ≡ t → list_any (bytes_eq (b ∷ w)) (cond t (k ∷ ks) ks) ≡ (bytes_eq (b ∷ w) k || list_any (bytes_eq (b ∷ w)) ks)
any-begins_as b w k ks true e = refl
any-begins_as b w [] ks false e = refl
any-begins_as b w (c ∷ k) ks false e =
    let differs : (b == c) ≡ false = ne_eqb b c (λ h. eqb-false c b e (sym h)) in
    sym (ap (λ t. (t && bytes_eq w k) || list_any (bytes_eq (b ∷ w)) ks) differs)

any-begins : (b : ℕ) (w : List ℕ) (ks : List (List ℕ)) → list_any (bytes_eq (b ∷ w)) (filter (begins_with b) ks) ≡ list_any (bytes_eq (b ∷ w)) ks
any-begins b w [] = refl
any-begins b w (k ∷ ks) =
    any-begins_as b w k (filter (begins_with b) ks) (begins_with b k) refl
    ∙ ap (λ t. bytes_eq (b ∷ w) k || t) (any-begins b w ks)

pub is_keyword-begins : (b : ℕ) (w : List ℕ) → list_any (bytes_eq (b ∷ w)) (keywords_from b) ≡ is_keyword (b ∷ w)
unfolding keywords_from
is_keyword-begins b w = any-begins b w keywords

pub is_keyword-first : (w : List ℕ) → 0 < length w → list_any (bytes_eq w) (keywords_from (get_or w 0 0)) ≡ is_keyword w
is_keyword-first [] h = absurd (omega arith)
is_keyword-first (b ∷ w) h = is_keyword-begins b w

pub list_any-map : {X Y : Type 0} (p : Y → Bool) (f : X → Y) (xs : List X) → list_any (λ x. p (f x)) xs ≡ list_any p (map f xs)
list_any-map p f [] = refl
list_any-map p f (x ∷ xs) = ap (λ t. p (f x) || t) (list_any-map p f xs)

-- the keywords from a byte that is written out
pub keywords_from-at : (b n : ℕ) (ks : List (List ℕ)) → b ≡ n → ks ≡ filter (begins_with n) keywords → ks ≡ keywords_from b
unfolding keywords_from
keywords_from-at b n ks e h = h ∙ ap (λ c. filter (begins_with c) keywords) (sym e)

-- no keyword begins with a byte that none of these is
abbrev firsts : List ℕ
firsts = 97 ∷ 98 ∷ 99 ∷ 100 ∷ 101 ∷ 102 ∷ 103 ∷ 105 ∷ 108 ∷ 114 ∷ 115 ∷ 116 ∷ 117 ∷ 118 ∷ 119 ∷ 95 ∷ []

begins-elsewhere : (b : ℕ) (k : List ℕ) (fs : List ℕ) → list_any (λ f. begins_with f k) fs ≡ true → list_any (λ f. f == b) fs ≡ false → begins_with b k ≡ false
begins-elsewhere b [] fs h n = refl
begins-elsewhere b (c ∷ k) [] h n = absurd (both_ways false refl h)
begins-elsewhere b (c ∷ k) (f ∷ fs) h n =
    let p = or_parts (f == b) (list_any (λ g. g == b) fs) n in
    elim (or_cases (c == f) (list_any (λ g. c == g) fs) h) as (λ _. (c == b) ≡ false) [
      | inl e ↦ ap (λ x. x == b) (eqb-true c f e) ∙ p.0
      | inr e ↦ begins-elsewhere b (c ∷ k) fs e p.1
    ]

none-begins : (b : ℕ) (fs : List ℕ) (ks : List (List ℕ)) → list_all (λ k. list_any (λ f. begins_with f k) fs) ks ≡ true → list_any (λ f. f == b) fs ≡ false → filter (begins_with b) ks ≡ []
none-begins b fs [] h n = refl
none-begins b fs (k ∷ ks) h n =
    let p = and_parts (list_any (λ f. begins_with f k) fs) (list_all (λ j. list_any (λ f. begins_with f j) fs) ks) h in
    cond-false (begins_with b k) (k ∷ filter (begins_with b) ks) (filter (begins_with b) ks) (begins-elsewhere b k fs p.0 n)
    ∙ none-begins b fs ks p.1 n

pub keywords_from-other : (b : ℕ) → list_any (λ f. f == b) firsts ≡ false → [] ≡ keywords_from b
unfolding keywords_from
keywords_from-other b n = sym (none-begins b firsts keywords refl n)
