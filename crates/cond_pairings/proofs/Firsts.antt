-- What is first of declarations, whichever way they are passed.
use Rattle.std.proofs.Common.{◌≡◌, ℕ, Bool, true, false, not, ◌&&◌, List, [], ◌∷◌, ◌++◌, map, reverse, refl, sym, ap, ◌∙◌, append_assoc, Bor}
use Rattle.std.proofs.lemmas.List.{reverse-append, map-append}
use Rattle.std.specs.Prelude.{Option, Some, None, if◌then◌else◌}
use Rattle.cond_formula.specs.Conditions.{condition_of, value}
use Rattle.core_meaning.specs.Entities.{or_else}
use Rattle.scope_readings.specs.Scopes.{Pairing, or_own}
use Rattle.cond_bindings.specs.declared.unit_bindings.Identifier.{Identifier}
use Rattle.cond_bindings.specs.Bindings.{Visible, innermost, first, declared_by, plain_meaning, plain_identifier, pairings_at}
use Rattle.cond_bindings.specs.Unseen.{none_there}
use Rattle.cond_bindings.specs.declared.unit_bindings.Declaration.{Declaration}
use Rattle.cond_pairings.specs.declared.pairs.CondPairing.{CondPairing}
use Rattle.cond_pairings.specs.Pairs.{Pair, pair_with, declared_pairs, one_seen, pairs_seen}
use Rattle.cond_pairings.proofs.Walks.{pair_more, pairs_left}
use Rattle.cond_pairings.proofs.Chained.{seen_as}

seen_reversed : (xs : List (Bor Declaration)) → map seen_as (reverse xs) ≡ reverse (map seen_as xs)
seen_reversed [] = refl
seen_reversed (x ∷ xs) =
    ap (map seen_as) (reverse-append (x ∷ []) xs)
    ∙ (map-append seen_as (reverse xs) (x ∷ [])
    ∙ (ap (λ vs. vs ++ seen_as x ∷ []) (seen_reversed xs)
    ∙ sym (reverse-append (seen_as x ∷ []) (map seen_as xs))))

module _ (on : ℕ → Bool) where
  innermost_of_both : (xs ys : List Visible) → innermost on (xs ++ ys) ≡ or_else (innermost on xs) (innermost on ys)
  innermost_of_both [] ys = refl
  innermost_of_both (x ∷ xs) ys = elim (value on x.when) as (λ b. (if b then Some x.number else innermost on (xs ++ ys)) ≡ or_else (if b then Some x.number else innermost on xs) (innermost on ys)) [ true ↦ refl | false ↦ innermost_of_both xs ys ]

  -- of those that come the latest first, the first is the innermost of those that come the other way
  pub first_is_last : (vs : List Visible) → innermost on (reverse vs) ≡ first on vs
  first_is_last [] = refl
  first_is_last (v ∷ earlier) = ap (innermost on) (reverse-append (v ∷ []) earlier) ∙ innermost_of_both (reverse earlier) (v ∷ []) ∙ ap (λ found. or_else found (if value on v.when then Some v.number else None)) (first_is_last earlier)

  none_if : (vs : List Visible) → elim (innermost on vs) as (λ x. Type 0) [ None ↦ none_there on vs ≡ true | Some n ↦ none_there on vs ≡ false ]
  none_if [] = refl
  none_if (v ∷ vs) = elim (value on v.when) as (λ b. elim (if b then Some v.number else innermost on vs) as (λ x. Type 0) [ None ↦ (not b && none_there on vs) ≡ true | Some n ↦ (not b && none_there on vs) ≡ false ]) [ true ↦ refl | false ↦ none_if vs ]

  -- some declarations, and where none of them is there others
  pub either_of : (identifier : ℕ) (when left : Bool) (blocks others : List Visible) (found : Option ℕ) → innermost on others ≡ found → left ≡ (when && none_there on blocks)
      → pairs_left on identifier when blocks ++ pairs_left on identifier left others ≡ (if when then pair_with identifier (or_else (innermost on blocks) found) else [])
  either_of identifier false left blocks others found is rest = ap (λ b. pairs_left on identifier b others) rest
  either_of identifier true left blocks others found is rest =
      (elim (innermost on blocks) as (λ o. (elim o as (λ x. Type 0) [ None ↦ none_there on blocks ≡ true | Some n ↦ none_there on blocks ≡ false ])
      → pair_with identifier o ++ pairs_left on identifier left others ≡ pair_with identifier (or_else o found)) [
        | None ↦ λ none. ap (λ b. pairs_left on identifier b others) (rest ∙ none) ∙ ap (pair_with identifier) is
        | Some n ↦ λ none. ap (λ b. record { identifier = identifier; declared_by = n } ∷ pairs_left on identifier b others) (rest ∙ none)
      ]) (none_if blocks)

  -- the pairs of a use: with what is visible in blocks, and else with what is visible at file scope
  pub use_pairs : (identifier : ℕ) (when left : Bool) (blocks others : List Visible) (found : Option ℕ) (before middle new : List Pair) → innermost on others ≡ found
      → left ≡ (when && none_there on blocks) → middle ≡ before ++ pairs_left on identifier when blocks → new ≡ middle ++ pairs_left on identifier left others
      → new ≡ before ++ (if when then pair_with identifier (or_else (innermost on blocks) found) else [])
  use_pairs identifier when left blocks others found before middle new is rest first_ones last_ones =
      last_ones
      ∙ (ap (λ ps. ps ++ pairs_left on identifier left others) first_ones
      ∙ (append_assoc before (pairs_left on identifier when blocks) (pairs_left on identifier left others)
      ∙ ap (λ ps. before ++ ps) (either_of identifier when left blocks others found is rest)))

  -- declarations that are passed the other way
  pub reversed : (xs ys : List (Bor Declaration)) (vs : List Visible) → map seen_as xs ≡ vs → ys ≡ reverse xs → innermost on (map seen_as ys) ≡ first on vs
  reversed xs ys vs are other_way = ap (λ ds. innermost on (map seen_as ds)) other_way ∙ (ap (innermost on) (seen_reversed xs ∙ ap reverse are) ∙ first_is_last vs)

  own_behind : (identifier : ℕ) (when left : Bool) (earlier : List Visible) (found : Option ℕ) → innermost on earlier ≡ found → left ≡ (when && none_there on earlier)
      → pairs_left on identifier when earlier ++ (if left then record { identifier = identifier; declared_by = identifier } ∷ [] else []) ≡ (if when then pair_with identifier (Some (or_own found identifier)) else [])
  own_behind identifier false left earlier found is rest = ap (λ b. if b then record { identifier = identifier; declared_by = identifier } ∷ [] else []) rest
  own_behind identifier true left earlier found is rest =
      (elim (innermost on earlier) as (λ o. o ≡ found → (elim o as (λ x. Type 0) [ None ↦ none_there on earlier ≡ true | Some n ↦ none_there on earlier ≡ false ])
      → pair_with identifier o ++ (if left then record { identifier = identifier; declared_by = identifier } ∷ [] else []) ≡ pair_with identifier (Some (or_own found identifier))) [
        | None ↦ λ same none. ap (λ b. if b then record { identifier = identifier; declared_by = identifier } ∷ [] else []) (rest ∙ none) ∙ ap (λ o. pair_with identifier (Some (or_own o identifier))) same
        | Some n ↦ λ same none. ap (λ b. record { identifier = identifier; declared_by = n } ∷ (if b then record { identifier = identifier; declared_by = identifier } ∷ [] else [])) (rest ∙ none) ∙ ap (λ o. pair_with identifier (Some (or_own o identifier))) same
      ]) is (none_if earlier)

  -- a declaration, behind those of its entity before it
  pub own_pair : (identifier : ℕ) (when left : Bool) (earlier : List Visible) (found : Option ℕ) (before middle : List CondPairing) (p : CondPairing) → innermost on earlier ≡ found
      → left ≡ (when && none_there on earlier) → one_seen on p ≡ (if left then record { identifier = identifier; declared_by = identifier } ∷ [] else [])
      → pairs_seen on middle ≡ pairs_seen on before ++ pairs_left on identifier when earlier
      → pairs_seen on (middle ++ p ∷ []) ≡ pairs_seen on before ++ (if when then pair_with identifier (Some (or_own found identifier)) else [])
  own_pair identifier when left earlier found before middle p is rest one so_far =
      pair_more on middle p
      ∙ (ap (λ ps. ps ++ one_seen on p) so_far
      ∙ (append_assoc (pairs_seen on before) (pairs_left on identifier when earlier) (one_seen on p)
      ∙ ap (λ ps. pairs_seen on before ++ ps) (ap (λ ps. pairs_left on identifier when earlier ++ ps) one ∙ own_behind identifier when left earlier found is rest)))

  one_declared : (there : Bool) (number : ℕ) (by : Option ℕ) (rest : List Pairing)
      → (if there then pair_with number by else []) ++ declared_pairs rest ≡ declared_pairs (if there then record { number = number; declared_by = by } ∷ rest else rest)
  one_declared true number by rest = refl
  one_declared false number by rest = refl

  -- one identifier more
  pub identifier_more : (ds : List Declaration) (i : Identifier) (rest : List Identifier) (xs ys : List CondPairing) (whole : List Pair)
      → pairs_seen on ys ≡ pairs_seen on xs ++ (if value on (condition_of i.when) then pair_with i.number (declared_by on i.number (plain_meaning ds i.meaning)) else [])
      → pairs_seen on xs ++ declared_pairs (pairings_at on (map (plain_identifier ds) (i ∷ rest))) ≡ whole
      → pairs_seen on ys ++ declared_pairs (pairings_at on (map (plain_identifier ds) rest)) ≡ whole
  identifier_more ds i rest xs ys whole grown so_far =
      ap (λ ps. ps ++ declared_pairs (pairings_at on (map (plain_identifier ds) rest))) grown
      ∙ (append_assoc (pairs_seen on xs) (if value on (condition_of i.when) then pair_with i.number (declared_by on i.number (plain_meaning ds i.meaning)) else []) (declared_pairs (pairings_at on (map (plain_identifier ds) rest)))
      ∙ (ap (λ ps. pairs_seen on xs ++ ps) (one_declared (value on (condition_of i.when)) i.number (declared_by on i.number (plain_meaning ds i.meaning)) (pairings_at on (map (plain_identifier ds) rest)))
      ∙ so_far))
