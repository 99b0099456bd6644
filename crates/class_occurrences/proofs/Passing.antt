-- Occurrences that pass a test, one pair after the other.
use Rattle.std.proofs.Common.{◌≡◌, ℕ, ◌+◌, ◌<◌, Bool, true, false, ◌||◌, List, [], ◌∷◌, ◌++◌, drop, length, get_or, refl, sym, ap, ◌∙◌}
use Rattle.std.specs.Prelude.{if◌then◌else◌}
use Rattle.std.specs.List.{list_any}
use Rattle.std.proofs.Math.Bool.{or_assoc}
use Rattle.cond_formula.specs.Conditions.{condition_of, value}
use Rattle.conditional.proofs.ListLaws.{item_of}
use Rattle.cond_pairings.specs.declared.pairs.CondPairing.{CondPairing}
use Rattle.cond_pairings.specs.Pairs.{Pair, pairs_seen}

abbrev plain_pair : CondPairing → Pair
plain_pair p = record { identifier = p.identifier; declared_by = p.declared_by }

module _ (on : ℕ → Bool) (passes : Pair → Bool) (pairs : List CondPairing) (p : CondPairing) (i : ℕ) (within : i < length pairs) (is : p ≡ get_or pairs i p) where
  abbrev behind : Bool
  behind = list_any passes (pairs_seen on (drop (i + 1) pairs))

  from_here : list_any passes (pairs_seen on (drop i pairs)) ≡ (if value on (condition_of p.when) then passes (plain_pair p) || behind else behind)
  from_here =
      ap (λ l. list_any passes (pairs_seen on l)) (item_of pairs p i within is)
      ∙ elim (value on (condition_of p.when)) as (λ holds. list_any passes ((if holds then plain_pair p ∷ [] else []) ++ pairs_seen on (drop (i + 1) pairs)) ≡ (if holds then passes (plain_pair p) || behind else behind)) [
        | true ↦ refl
        | false ↦ refl
      ]

  pub passed_too : (passed whole : Bool) → passes (plain_pair p) ≡ true → (passed || list_any passes (pairs_seen on (drop i pairs))) ≡ whole
      → ((passed || value on (condition_of p.when)) || behind) ≡ whole
  passed_too passed whole passing before =
      or_assoc passed (value on (condition_of p.when)) behind
      ∙ (ap (λ b. passed || b) (sym (from_here ∙ here)) ∙ before)
    where
      here : (if value on (condition_of p.when) then passes (plain_pair p) || behind else behind) ≡ (value on (condition_of p.when) || behind)
      here = elim (value on (condition_of p.when)) as (λ holds. (if holds then passes (plain_pair p) || behind else behind) ≡ (holds || behind)) [
        | true ↦ ap (λ b. b || behind) passing
        | false ↦ refl
      ]

  pub passed_over : (passed whole : Bool) → passes (plain_pair p) ≡ false → (passed || list_any passes (pairs_seen on (drop i pairs))) ≡ whole
      → (passed || behind) ≡ whole
  passed_over passed whole failing before = ap (λ b. passed || b) (sym (from_here ∙ here)) ∙ before
    where
      here : (if value on (condition_of p.when) then passes (plain_pair p) || behind else behind) ≡ behind
      here = elim (value on (condition_of p.when)) as (λ holds. (if holds then passes (plain_pair p) || behind else behind) ≡ behind) [
        | true ↦ ap (λ b. b || behind) failing
        | false ↦ refl
      ]
