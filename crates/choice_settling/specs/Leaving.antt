-- Alternatives that leave a node for a token that waits.
use Rattle.std.specs.Prelude.{◌≡◌, ℕ, Bool, true, List, Option, Some, None, IsTrue, if◌then◌else◌}
use Rattle.cond_formula.specs.declared.formulas.Formula.{Formula}
use Rattle.cond_formula.specs.Conditions.{condition_of, conditions_of, value, all_true}
use Rattle.choice_states.specs.declared.states.State.{State}
use Rattle.grammar_moves.specs.declared.places.Place.{Place as Spot}
use Rattle.choice_states.specs.declared.states.State.TheOpen.{State-F}
use Rattle.choice_states.specs.declared.states.State.TheOpen as state
use Rattle.choice_states.specs.declared.states.State.TheFolds.{fold-State}
use Rattle.choice_states.specs.Seen.{Parts}
use Rattle.choice_states.specs.States.{leaves, Standing, standing, open_node, owes, Finishes}

-- no alternative leaves the node
abbrev pub NoneLeaves : State → Type 0
NoneLeaves state = (on : ℕ → Bool) (parts : Parts) → (standing state on parts).stay ≡ leaves → ⊥

-- one stays in the node: it is open as it is
abbrev pub StaysInside : State → Type 0
StaysInside state = (on : ℕ → Bool) (parts : Parts) → open_node (standing state on parts) ≡ standing state on parts

-- each that leaves it has to where the formula is true on the path
abbrev pub EachOwes : List Formula → Formula → State → State → Type 0
EachOwes path when state new =
    (on : ℕ → Bool) (parts : Parts) → IsTrue (all_true on (conditions_of path)) → IsTrue (value on (condition_of when))
    → (standing state on parts).stay ≡ leaves → owes new on ≡ true

-- what becomes of a node is what it was, and where it leaves it and a token may be there on the path, it is left
abbrev pub IsLeft : List Formula → Formula → (ℕ → Bool) → Standing → Standing → Type 0
IsLeft path when on before after =
    IsTrue before.fits
    → (owed : Bool) × Finishes before owed after
    × (IsTrue (all_true on (conditions_of path)) → IsTrue (value on (condition_of when)) → before.stay ≡ leaves → owed ≡ true)

-- where one stands, if at a place
abbrev pub Spots : Type 0
Spots = (ℕ → Bool) → Option Spot

abbrev pub spot_level : State-F Spots → Spots
spot_level (state.At place new) on = Some place
spot_level (state.Split f first second) on = if value on (condition_of f) then first.value on else second.value on
spot_level other on = None

unfoldable pub spot_at : State → Spots
spot_at = fold-State Spots spot_level

abbrev pub IsThere : Option Spot → Type 0
IsThere None = ⊥
IsThere (Some spot) = Unit {0}

-- all alternatives stand at places
abbrev pub OnlyPlaces : State → Type 0
OnlyPlaces state = (on : ℕ → Bool) → IsThere (spot_at state on)
