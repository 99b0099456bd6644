-- Where identifiers of units are declared by others than those of other units with the same numbers, as a configuration sees both.
use Rattle.std.specs.Prelude.{ℕ, Bool, true, false, List}
use Rattle.std.specs.List.{AllZip}
use Rattle.cond_pairings.specs.Pairs.{Pair, pairs_seen}
use Rattle.told_occurrences.specs.declared.told.ToldUnit.{ToldUnit}
use Rattle.told_occurrences.specs.Told.{HaveSame}

-- some identifier is declared otherwise, or none is
abbrev pub TellsPairs : Bool → List Pair → List Pair → Type 0
TellsPairs true before after = HaveSame before after → ⊥
TellsPairs false before after = HaveSame before after

-- unit by unit, each is declared by the same
abbrev pub AreToldAlike : (ℕ → Bool) → List ToldUnit → List ToldUnit → Type 0
AreToldAlike on before after = AllZip (λ a b. HaveSame (pairs_seen on a.pairs.items) (pairs_seen on b.pairs.items)) before after

abbrev pub TellsOtherwise : Bool → (ℕ → Bool) → List ToldUnit → List ToldUnit → Type 0
TellsOtherwise true on before after = AreToldAlike on before after → ⊥
TellsOtherwise false on before after = AreToldAlike on before after
