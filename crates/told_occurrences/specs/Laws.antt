-- What holds of what is told of units; each is the contract of a function of this crate.
use Rattle.std.specs.Prelude.{◌≡◌, ◌↔◌, ℕ, List, map, Some, slice_get}
use Rattle.bindings.specs.Judged.{Identified}
use Rattle.program_occurrences.specs.Occurrences.{UnitNames}
use Rattle.program_occurrences.specs.Links.{bound_numbers}
use Rattle.told_occurrences.specs.Told.{number_in, pairs_of, HaveSame}

-- no two identifiers of the unit have one number in the stream
pub record AreToldApart (numbers : List ℕ) (unit : UnitNames) : Type 0 where
  pub apart :
      (i j : ℕ) (a b : Identified) → slice_get unit.identified i ≡ Some a → slice_get unit.identified j ≡ Some b → number_in numbers a.number ≡ number_in numbers b.number
      → i ≡ j

-- Two units whose identifiers have the same numbers have the same pairs exactly where each identifier of the one is declared by the one at
-- the same place of the other. Units that are judged well have them if their trees differ only in names, and they are told apart where leaves
-- tell their numbers in the stream (`TellNumbers`).
abbrev pub PairsTellBindings : Type 0
PairsTellBindings =
    (numbers : List ℕ) (before after : UnitNames) → map (λ i. i.number) before.identified ≡ map (λ i. i.number) after.identified → AreToldApart numbers before
    → HaveSame (pairs_of numbers before) (pairs_of numbers after) ↔ (bound_numbers before ≡ bound_numbers after)
