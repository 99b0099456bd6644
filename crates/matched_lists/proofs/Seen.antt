-- The entries of a list that are seen are there, and one is seen where one of the conditions holds.
use Rattle.std.proofs.Common.{◌≡◌, ℕ, Bool, true, false, List, [], ◌∷◌, refl}
use Rattle.std.specs.Prelude.{◌||◌, is_some, if◌then◌else◌}
use Rattle.cond_formula.specs.Conditions.{value, condition_of}
use Rattle.conditional.specs.declared.entries.Guarded.{Guarded}
use Rattle.conditional.specs.Entries.{seen, entries_of, first, some_holds}
use Rattle.matched_lists.specs.Matched.{StartsWith, behind, AreThere}

module _ {T P : Type 0} (form : T → P) (on : ℕ → Bool) where
  pub some_seen : (xs : List (Guarded T)) → some_holds on (entries_of form xs) ≡ is_some (first (seen on (entries_of form xs)))
  some_seen [] = refl
  some_seen (x ∷ xs) = by (value on (condition_of x.when)) (some_seen xs)
    where
      by : (b : Bool) → some_holds on (entries_of form xs) ≡ is_some (first (seen on (entries_of form xs)))
          → (b || some_holds on (entries_of form xs)) ≡ is_some (first (if b then form x.what ∷ seen on (entries_of form xs) else seen on (entries_of form xs)))
      by true h = refl
      by false h = h

  pub seen_there : (xs : List (Guarded T)) → AreThere on (λ x p. form x ≡ p) xs (seen on (entries_of form xs))
  seen_there [] = refl
  seen_there (x ∷ xs) = by (value on (condition_of x.when)) (seen_there xs)
    where
      by : (b : Bool) → AreThere on (λ x p. form x ≡ p) xs (seen on (entries_of form xs))
          → StartsWith b (λ x p. form x ≡ p) x.what (if b then form x.what ∷ seen on (entries_of form xs) else seen on (entries_of form xs))
          × AreThere on (λ x p. form x ≡ p) xs (behind b (if b then form x.what ∷ seen on (entries_of form xs) else seen on (entries_of form xs)))
      by true rest = (refl, rest)
      by false rest = (tt, rest)
