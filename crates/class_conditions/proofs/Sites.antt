-- The numbers of a unit's identifiers, and of those that declare them, have nothing to do with the sites of its tokens.
use Rattle.std.proofs.Common.{◌≡◌, ℕ, Bool, true, false, List, [], ◌∷◌, map, Option, Some, None, refl, sym, ap, ◌∙◌}
use Rattle.std.specs.Prelude.{if◌then◌else◌}
use Rattle.core_meaning.specs.Checking.{Entity}
use Rattle.bindings.specs.Judged.{Identified, same_entity, first_with, number_or}
use Rattle.cond_pairings.specs.Pairs.{Pair}
use Rattle.program_occurrences.specs.Occurrences.{UnitNames, or_itself, occurrence_among}
use Rattle.sited_names.specs.Unsited.{unsited_identifier, unsited_names}
use Rattle.told_occurrences.specs.Told.{number_in, pair_of, pairs_of}

number_of_first : (entity : Entity) (own : ℕ) (all : List Identified) → number_or (first_with entity (map unsited_identifier all)) own ≡ number_or (first_with entity all) own
number_of_first entity own [] = refl
number_of_first entity own (i ∷ rest) = by (same_entity i.entity entity) (number_of_first entity own rest)
  where
    by : (b : Bool) → number_or (first_with entity (map unsited_identifier rest)) own ≡ number_or (first_with entity rest) own
        → number_or (if b then Some (unsited_identifier i) else first_with entity (map unsited_identifier rest)) own ≡ number_or (if b then Some i else first_with entity rest) own
    by true behind = refl
    by false behind = behind

number_by : (i : Identified) (first : Option Identified) → (or_itself i first).number ≡ number_or first i.number
number_by i None = refl
number_by i (Some first) = refl

declaring_number :
    (all : List Identified) (i : Identified)
    → (or_itself (unsited_identifier i) (first_with i.entity (map unsited_identifier all))).number ≡ (or_itself i (first_with i.entity all)).number
declaring_number all i =
    number_by (unsited_identifier i) (first_with i.entity (map unsited_identifier all))
    ∙ (number_of_first i.entity i.number all ∙ sym (number_by i (first_with i.entity all)))

pairs_without : (numbers : List ℕ) (all some : List Identified)
    → map (pair_of numbers) (map (occurrence_among (map unsited_identifier all)) (map unsited_identifier some)) ≡ map (pair_of numbers) (map (occurrence_among all) some)
pairs_without numbers all [] = refl
pairs_without numbers all (i ∷ rest) =
    ap (λ (by : ℕ). record { identifier = number_in numbers i.number; declared_by = number_in numbers by }
    ∷ map (pair_of numbers) (map (occurrence_among (map unsited_identifier all)) (map unsited_identifier rest))) (declaring_number all i)
    ∙ ap (λ (pairs : List Pair). pair_of numbers (occurrence_among all i) ∷ pairs) (pairs_without numbers all rest)

-- units that are the same but for the sites of their tokens have the same pairs
pub same_pairs : (numbers : List ℕ) (unit other : UnitNames) → unsited_names unit ≡ unsited_names other → pairs_of numbers unit ≡ pairs_of numbers other
same_pairs numbers unit other same =
    sym (pairs_without numbers unit.identified unit.identified)
    ∙ (ap (pairs_of numbers) same ∙ pairs_without numbers other.identified other.identified)
