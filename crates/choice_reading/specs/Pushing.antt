-- A token that is the next part wherever one stands.
use Rattle.std.specs.Prelude.{◌≡◌, ℕ, Bool, List, Option, Some, None, IsTrue}
use Rattle.cond_formula.specs.declared.formulas.Formula.{Formula}
use Rattle.cond_formula.specs.Conditions.{conditions_of, all_true}
use Rattle.c_tree.specs.declared.terminals.Terminal.{Terminal}
use Rattle.c_tree.specs.Places.{Place, shifts, move}
use Rattle.grammar_moves.specs.declared.places.Place.{Place as Spot}
use Rattle.grammar_moves.specs.PlainPlaces.{plain_place}
use Rattle.choice_states.specs.declared.states.State.{State}
use Rattle.choice_states.specs.Seen.{Seen, Parts}
use Rattle.choice_states.specs.Parts.{part_count, HasNoNumber}
use Rattle.choice_states.specs.States.{Standing, at_place}
use Rattle.choice_settling.specs.Leaving.{IsThere, spot_at}
use Rattle.choice_settling.specs.Steps.{IsSound, ReadsThere}

-- the token is the next part, which has no number
pub record Pushes (place : Place) (kind : Terminal) : Type 0 where
  pub behind : Place
  pub is : move place kind ≡ shifts behind
  pub none : HasNoNumber (part_count behind)

-- one stands at a place at which it is
abbrev pub PushesThere : Option Spot → Terminal → Type 0
PushesThere None kind = ⊥
PushesThere (Some spot) kind = Pushes (plain_place spot) kind

-- where one stands at a place, one stands there behind whatever parts
abbrev pub StandsThere : Option Spot → (Parts → Standing) → Type 0
StandsThere None stands = Unit {0}
StandsThere (Some spot) stands = (parts : Parts) → stands parts ≡ at_place (plain_place spot) parts

-- where the token is the next part, one stands behind it
abbrev pub MovesThere : Option Spot → Terminal → (Parts → Standing) → Type 0
MovesThere None kind stands = Unit {0}
MovesThere (Some spot) kind stands = (behind : Place) → move (plain_place spot) kind ≡ shifts behind → (parts : Parts) → stands parts ≡ at_place behind parts

-- where one stands at a place, the token is there and is read, wherever the path and the formulas are true
abbrev pub ReadsPlaces : State → List Formula → List Formula → Option Spot → Terminal → Seen → ((ℕ → Bool) → Standing) → ((ℕ → Bool) → Standing) → Type 0
ReadsPlaces state path here outer kind token before after =
    (on : ℕ → Bool) → IsThere (spot_at state on) → IsTrue (all_true on (conditions_of path)) → IsTrue (all_true on (conditions_of here))
    → IsSound (before on) → ReadsThere outer kind token (before on) (after on)
