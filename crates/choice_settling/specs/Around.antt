-- Lists that have begun only where they have an entry, by the place in them before an entry and the place behind them in the node around.
use Rattle.std.specs.Prelude.{◌≡◌, [], ◌∷◌, Option, Some, None, IsTrue}
use Rattle.grammar_moves.specs.declared.places.Place.{Place as Spot}
use Rattle.grammar_moves.specs.PlainPlaces.{plain_place}
use Rattle.choice_states.specs.Lists.{around_of, is_around_list}

-- where the list hasn't begun, one stands at this place in the node around
abbrev pub IsListAround : Spot → Option Spot → Spot → Type 0
IsListAround before None around = ⊥
IsListAround before (Some behind) around = (around_of (plain_place before) (plain_place behind) ≡ plain_place around ∷ []) × IsTrue (is_around_list (plain_place around))

abbrev pub IsNoListAround : Spot → Option Spot → Type 0
IsNoListAround before None = Unit {0}
IsNoListAround before (Some behind) = around_of (plain_place before) (plain_place behind) ≡ []
