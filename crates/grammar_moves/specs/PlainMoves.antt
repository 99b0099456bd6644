-- The beginnings and moves of the code as those of the reader.
use Rattle.std.specs.Prelude.{◌≡◌, ℕ, zero, suc, List, ◌∷◌, ◌++◌, Option, Some, None}
use Rattle.c_tree.specs.declared.kinds.Kind.{Kind}
use Rattle.c_tree.specs.declared.terminals.Terminal.{Terminal}
use Rattle.c_tree.specs.Grammar as grammar
use Rattle.c_tree.specs.Places as places
use Rattle.grammar_moves.specs.declared.levels.Operator.{Operator}
use Rattle.grammar_moves.specs.declared.beginnings.Start.{Start}
use Rattle.grammar_moves.specs.declared.beginnings.NodeStart.{NodeStart}
use Rattle.grammar_moves.specs.declared.beginnings.Beginning.{Beginning}
use Rattle.grammar_moves.specs.declared.moves.Action.{Action}
use Rattle.grammar_moves.specs.declared.moves.Action.TheVariants as action
use Rattle.grammar_moves.specs.declared.moves.Move.{Move}
use Rattle.grammar_moves.specs.PlainPlaces.{plain_place, plain_around}

abbrev pub plain_operator : Option Operator → places.Operator
plain_operator None = places.no_operator
plain_operator (Some o) = places.operator_of o.kind o.left

abbrev pub plain_start : Option Start → places.Beginning
plain_start None = places.no_beginning
plain_start (Some s) = places.begins (plain_around s.around) s.skips (plain_place s.inner)

abbrev pub plain_node_start : Option NodeStart → places.Beginning
plain_node_start None = places.no_beginning
plain_node_start (Some n) =
    places.begins (plain_around n.around ++ plain_around n.start.around) n.start.skips (plain_place n.start.inner)

abbrev pub begun_by : Beginning → places.Beginning
begun_by b =
    places.begins (plain_around b.around ++ (plain_around b.start.around ++ plain_around b.start.start.around))
    b.start.start.skips (plain_place b.start.start.inner)

abbrev pub plain_beginning : Option Beginning → places.Beginning
plain_beginning None = places.no_beginning
plain_beginning (Some b) = begun_by b

abbrev pub plain_action : Action → places.Move
plain_action (action.Shifts behind) = places.shifts (plain_place behind)
plain_action (action.Enters behind beginning) = places.enters (plain_place behind) (begun_by beginning)
plain_action (action.Takes behind inner) = places.takes (plain_place behind) (plain_place inner)
plain_action (action.Finishes kind) = places.finishes kind
plain_action action.Passes = places.passes
plain_action action.Fails = places.fails

-- parts are left out before it
abbrev pub skipping : ℕ → places.Move → places.Move
skipping zero move = move
skipping (suc n) move = places.skips (skipping n move)

abbrev pub plain_move : Move → places.Move
plain_move m = skipping m.skipped (plain_action m.action)

-- What a token does where a slot is next, or None if the slot is left out. Behind the slot is a place, whatever more slots there are.
abbrev pub SlotActs : grammar.Slot → places.Place → Terminal → Option Action → Type 0
SlotActs slot behind token (Some a) =
    (kind : Kind) (at : List grammar.Slot → places.Place) (slots : List grammar.Slot) → at slots ≡ behind
    → places.row_move kind at (slot ∷ slots) token ≡ plain_action a
SlotActs slot behind token None =
    (kind : Kind) (at : List grammar.Slot → places.Place) (slots : List grammar.Slot)
    → places.row_move kind at (slot ∷ slots) token ≡ places.skips (places.row_move kind at slots token)
