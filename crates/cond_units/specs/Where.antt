-- What is done of a unit where a condition is true.
use Rattle.std.specs.Prelude.{ℕ, Bool}
use Rattle.core_meaning.specs.UnitNames.{UnitState}
use Rattle.conditional_steps.specs.Here.{DoneHere}
use Rattle.cond_units.specs.Seen.{SeenUnit}
use Rattle.cond_units.specs.Declaring.{IsUnit}

-- What is seen stays true of each unit of which it is. There may be more declarations of functions, which no name of the unit stands for, since the
-- numbers of declarations are those of all configurations.
pub record Stays (old new : SeenUnit) : Type 0 where
  pub stays : (by : ℕ → ℕ) (unit : UnitState) → IsUnit by old unit → IsUnit by new unit

-- what is seen goes on, or is refused, where a condition is true; elsewhere it stays true and nothing is refused
abbrev pub Where : Bool → (SeenUnit → SeenUnit → Bool → Type 0) → SeenUnit → SeenUnit → Bool → Type 0
Where here Does old new refused = DoneHere Stays here Does old new refused
