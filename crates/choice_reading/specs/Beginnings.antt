-- Nodes that begin with a token.
use Rattle.std.specs.Prelude.{◌≡◌, ℕ, Bool, true, false, ◌&&◌, List, [], ◌∷◌, Option, Some, None, IsTrue}
use Rattle.c_tree.specs.Places.{Place, Beginning, no_beginning, begins}
use Rattle.c_tree.specs.Machine.{Frame, frame, begun}
use Rattle.grammar_moves.specs.declared.places.Place.{Place as Spot}
use Rattle.grammar_moves.specs.PlainPlaces.{plain_place}
use Rattle.choice_states.specs.declared.states.State.{State}
use Rattle.choice_states.specs.Seen.{Seen, Parts, of_seen, nothing_seen}
use Rattle.choice_states.specs.Parts.{values, parts_fit, parts_fit_within}
use Rattle.choice_states.specs.Lists.{place_fits_in}
use Rattle.choice_states.specs.States.{stays, Standing, within, standing}
use Rattle.choice_states.specs.Alike.{StandAlike}
use Rattle.choice_settling.specs.Steps.{IsBehind}

-- in a part of a node without parts so far, behind which is this place, if there is one
abbrev pub StandsIn : Option Spot → State → State → Type 0
StandsIn None inner new = StandAlike new inner
StandsIn (Some place) inner new = (on : ℕ → Bool) (parts : Parts) → standing new on parts ≡ within (plain_place place) (standing inner on []) parts

-- in nodes, each in the one before it, of which the outermost alone has parts; by the places behind the parts in which one stands
abbrev pub nested_in : List Place → Standing → Parts → Standing
nested_in [] inner parts = inner
nested_in (first ∷ rest) inner parts = within first (nested_in rest inner []) parts

-- the parts of a node that begins with a token, perhaps behind one that is left out
abbrev pub first_values : Bool → Seen → List Seen
first_values false token = token ∷ []
first_values true token = nothing_seen ∷ token ∷ []

-- nodes without parts in each of which one stands in a part
abbrev pub all_fit : List Place → Bool
all_fit [] = true
all_fit (first ∷ rest) = parts_fit_within first [] && all_fit rest

-- one part fits, or any
abbrev pub FirstFits : Bool → Place → Type 0
FirstFits false inner = IsTrue (parts_fit_within inner [])
FirstFits true inner = (parts : Parts) → IsTrue (parts_fit_within inner parts)

-- the parts of a node that begins with a token
pub record StandsFirst (inner : Place) (skipped : Bool) (token : Seen) (parts : Parts) : Type 0 where
  pub values_are : values parts ≡ first_values skipped token
  pub fit : IsTrue (parts_fit inner parts)

-- the nodes that begin have the parts that they should have
abbrev pub BeginsFitting : Beginning → Type 0
BeginsFitting no_beginning = Unit {0}
BeginsFitting (begins places skipped inner) = IsTrue (all_fit places) × FirstFits skipped inner

-- one stands behind a token with which nodes begin in a node with these parts
pub record StandsBegun (behind : Place) (beginning : Beginning) (token : Seen) (parts : Parts) (new : Standing) : Type 0 where
  pub fit : IsTrue new.fits
  pub fit_in : (outer : Option Place) → IsTrue (place_fits_in behind outer) → IsTrue (new.fits_in outer)
  pub stay : new.stay ≡ stays
  pub begins : (frames : List (Frame Seen)) → IsBehind (begun of_seen beginning token (frame behind (values parts) ∷ frames)) (new.leads frames)
