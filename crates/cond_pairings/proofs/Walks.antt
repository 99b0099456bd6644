-- Declarations that are passed one after the other.
use Rattle.std.proofs.Common.{◌≡◌, ℕ, suc, ◌+◌, ◌<◌, Bool, true, false, not, ◌&&◌, List, [], ◌∷◌, ◌++◌, drop, length, get_or, refl, sym, ap, ◌∙◌, add-one, drop-cons, append_assoc}
use Rattle.std.specs.Prelude.{Option, Some, if◌then◌else◌}
use Rattle.cond_formula.specs.Conditions.{condition_of, value}
use Rattle.cond_bindings.specs.Bindings.{Visible, innermost}
use Rattle.cond_bindings.specs.Unseen.{none_there}
use Rattle.cond_pairings.specs.declared.pairs.CondPairing.{CondPairing}
use Rattle.cond_pairings.specs.Pairs.{Pair, pair_with, one_seen, pairs_seen}

pub append_none : {X : Type 0} (xs : List X) → xs ++ [] ≡ xs
append_none [] = refl
append_none (x ∷ xs) = ap (λ rest. x ∷ rest) (append_none xs)

and_assoc : (a b c : Bool) → ((a && b) && c) ≡ (a && (b && c))
and_assoc true b c = refl
and_assoc false b c = refl

pub one_of : {X : Type 0} (xs : List X) (x : X) (i : ℕ) → i < length xs → x ≡ get_or xs i x → drop i xs ≡ x ∷ drop (i + 1) xs
one_of xs x i within is = rw (add-one, drop-cons xs i x within) (ap (λ y. y ∷ drop (suc i) xs) (sym is))

module _ (on : ℕ → Bool) where
  pub pair_more : (xs : List CondPairing) (p : CondPairing) → pairs_seen on (xs ++ p ∷ []) ≡ pairs_seen on xs ++ one_seen on p
  pair_more [] p = append_none (one_seen on p)
  pair_more (x ∷ xs) p = ap (λ rest. one_seen on x ++ rest) (pair_more xs p) ∙ sym (append_assoc (one_seen on x) (pairs_seen on xs) (one_seen on p))

  -- what is left of a pairing, of the declarations that haven't been passed
  abbrev pub pairs_left : ℕ → Bool → List Visible → List Pair
  pairs_left identifier left vs = if left then pair_with identifier (innermost on vs) else []

  passed_one : (identifier : ℕ) (left there : Bool) (by : ℕ) (others : Option ℕ)
      → (if left && there then record { identifier = identifier; declared_by = by } ∷ [] else []) ++ (if left && not there then pair_with identifier others else [])
      ≡ (if left then pair_with identifier (if there then Some by else others) else [])
  passed_one identifier true true by others = refl
  passed_one identifier true false by others = refl
  passed_one identifier false there by others = refl

  pub passed : (identifier : ℕ) (left there : Bool) (p : CondPairing) (v : Visible) (vs : List Visible) (xs : List CondPairing) (whole : List Pair)
      → p.identifier ≡ identifier → p.declared_by ≡ v.number → value on (condition_of p.when) ≡ (left && value on v.when) → there ≡ (left && not (value on v.when))
      → pairs_seen on xs ++ pairs_left identifier left (v ∷ vs) ≡ whole → pairs_seen on (xs ++ p ∷ []) ++ pairs_left identifier there vs ≡ whole
  passed identifier left there p v vs xs whole same by when rest so_far =
      ap (λ ps. ps ++ pairs_left identifier there vs) (pair_more xs p)
      ∙ (append_assoc (pairs_seen on xs) (one_seen on p) (pairs_left identifier there vs)
      ∙ (ap (λ ps. pairs_seen on xs ++ ps)
      (ap (λ b. (if b then record { identifier = p.identifier; declared_by = p.declared_by } ∷ [] else []) ++ pairs_left identifier there vs) when
      ∙ (ap (λ b. (if left && value on v.when then record { identifier = p.identifier; declared_by = p.declared_by } ∷ [] else []) ++ pairs_left identifier b vs) rest
      ∙ (ap (λ n. (if left && value on v.when then record { identifier = n; declared_by = p.declared_by } ∷ [] else []) ++ pairs_left identifier (left && not (value on v.when)) vs) same
      ∙ (ap (λ n. (if left && value on v.when then record { identifier = identifier; declared_by = n } ∷ [] else []) ++ pairs_left identifier (left && not (value on v.when)) vs) by
      ∙ passed_one identifier left (value on v.when) v.number (innermost on vs)))))
      ∙ so_far))

  pub left_behind : (left rest : Bool) (v : Visible) (vs : List Visible) (whole : Bool) → rest ≡ (left && not (value on v.when)) → (left && none_there on (v ∷ vs)) ≡ whole → (rest && none_there on vs) ≡ whole
  left_behind left rest v vs whole is so_far = ap (λ b. b && none_there on vs) is ∙ (and_assoc left (not (value on v.when)) (none_there on vs) ∙ so_far)

  none_left : (identifier : ℕ) (left : Bool) → pairs_left identifier left [] ≡ []
  none_left identifier true = refl
  none_left identifier false = refl

  pub passed_all : (identifier : ℕ) (left : Bool) (xs : List CondPairing) (whole : List Pair) → pairs_seen on xs ++ pairs_left identifier left [] ≡ whole → pairs_seen on xs ≡ whole
  passed_all identifier left xs whole so_far = sym (append_none (pairs_seen on xs)) ∙ (ap (λ ps. pairs_seen on xs ++ ps) (sym (none_left identifier left)) ∙ so_far)

  pub left_at_end : (left whole : Bool) → (left && none_there on []) ≡ whole → left ≡ whole
  left_at_end true whole so_far = so_far
  left_at_end false whole so_far = so_far
