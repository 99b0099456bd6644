-- The class of a file by hand.
use Rattle.std.proofs.Common.{◌≡◌, ℕ, ◌<◌, false, List, [], length, slice_get, slice_index_or, Some, refl, inl, inr, arith}
use Rattle.core_meaning.specs.Checking.{own_entity}
use Rattle.bindings.specs.Rows.{token_of}
use Rattle.bindings.specs.Judged.{Identified}
use Rattle.program_occurrences.specs.Occurrences.{UnitNames, Occurrence, occurrences_of, OccursIn}
use Rattle.program_occurrences.specs.Classes.{by_declaration, by_occurrence, itself, brought, IsBrought}
use Rattle.program_occurrences.specs.Rows.{at, with_long, with_int, names_among, AreSeen, AlternativesAreOneClass}

abbrev no_names : UnitNames
no_names = record { identified = []; is_external = λ name. false }

abbrev no_identifier : Identified
no_identifier = record { number = 0; token = token_of []; entity = own_entity }

abbrev first_unit : List UnitNames → UnitNames
first_unit units = slice_index_or units 0 no_names

abbrev all_in : List UnitNames → List Occurrence
all_in units = occurrences_of (first_unit units)

abbrev nth : List UnitNames → ℕ → Occurrence
nth units k = slice_index_or (all_in units) k (record { identifier = no_identifier; declared_by = no_identifier })

-- the occurrence with this place in the one unit
abbrev in_unit :
    (units : List UnitNames) → slice_get units 0 ≡ Some (first_unit units) → (k : ℕ) → k < length (all_in units)
    → slice_index_or (all_in units) k (nth units k) ≡ nth units k → OccursIn units
in_unit units one k below is = record { place = 0; unit = first_unit units; is_unit = one; occurrence = nth units k; among = (k, below, is) }

three_with_long : length (all_in (names_among with_long)) ≡ 3
three_with_long = refl

three_with_int : length (all_in (names_among with_int)) ≡ 3
three_with_int = refl

use_is_brought : IsBrought AreSeen (at 1) (at 12)
use_is_brought =
    brought (names_among with_long) (inl refl) itself
    (by_occurrence (in_unit (names_among with_long) refl 0 (omega (arith, three_with_long)) refl)
    (in_unit (names_among with_long) refl 2 (omega (arith, three_with_long)) refl) refl refl)

pub one_class : AlternativesAreOneClass
one_class = (
  use_is_brought,
  brought (names_among with_int) (inr refl) use_is_brought
      (by_declaration (in_unit (names_among with_int) refl 2 (omega (arith, three_with_int)) refl)),
)
