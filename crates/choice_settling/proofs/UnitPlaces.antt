-- Places in the list of a unit's items: what the table of moves does there, and which places there are in no other node.
use Rattle.std.proofs.Common.{◌≡◌, ℕ, zero, suc, Bool, true, false, not, ◌&&◌, [], ◌∷◌, Option, Some, None, IsTrue, refl, subst}
use Rattle.c_tree.specs.declared.kinds.Kind.{Kind}
use Rattle.c_tree.specs.declared.terminals.Terminal.{Terminal}
use Rattle.c_tree.specs.Grammar.{Category}
use Rattle.c_tree.specs.Places.{Place, in_list, Beginning, no_beginning, begins, begins_part, Move, shifts, enters, takes, skips, finishes, passes, fails, or_ends, move, back}
use Rattle.grammar_moves.specs.declared.places.Place.{Place as Spot}
use Rattle.grammar_moves.specs.PlainPlaces.{plain_place}
use Rattle.grammar_moves.specs.PlainMoves.{skipping}
use Rattle.choice_states.specs.Parts.{is_there}
use Rattle.choice_states.specs.Lists.{around_of, is_around_list, is_unit_kind, is_unit_list, place_fits_in, whole_fits_in, unbegun_fits_in}
use Rattle.choice_settling.specs.Steps.{place_around}
use Rattle.choice_settling.specs.Around.{IsListAround}

none_such : {A : Type 0} → false ≡ true → A
none_such h = cc

both_no : {A : Type 0} (b : Bool) → IsTrue (b && not b) → A
both_no true h = none_such h
both_no false h = none_such h

-- ---- which places are in the unit's list

back_in_unit : (place ended : Place) → IsTrue (is_unit_list place) → IsTrue (is_unit_list (back place ended))
back_in_unit (in_list kind category) ended h = h
back_in_unit place ended h = none_such h

pub back_fits_in : (place ended : Place) (outer : Option Place) → IsTrue (place_fits_in place outer) → IsTrue (place_fits_in (back place ended) outer)
back_fits_in place ended None fits_in = back_in_unit place ended fits_in
back_fits_in place ended (Some behind) fits_in = refl

-- a list that hasn't begun is no item of a unit
pub around_fits_in : (place around : Place) (outer : Option Place) → IsTrue (place_fits_in place outer && unbegun_fits_in (Some place)) → IsTrue (place_fits_in around outer)
around_fits_in place around None fits_in = both_no (is_unit_list place) fits_in
around_fits_in place around (Some behind) fits_in = refl

around_not_unit : (before behind around : Place) → around_of before behind ≡ around ∷ [] → IsTrue (not (is_unit_list behind))
around_not_unit before (in_list kind category) around h = absurd (cc h)
around_not_unit before behind around h = refl

pub list_fits_in : (outer : Option Spot) (place around : Spot) → IsListAround place outer around → IsTrue (unbegun_fits_in (place_around outer))
list_fits_in None place around list = absurd list
list_fits_in (Some behind) place around list = around_not_unit (plain_place place) (plain_place behind) (plain_place around) list.0

unit_not_around : {A : Type 0} (place : Place) → IsTrue (is_around_list place) → IsTrue (is_unit_list place) → A
unit_not_around (in_list kind category) is h = none_such is
unit_not_around place is h = none_such h

pub before_list_fits_in : (place behind before : Place) (outer : Option Place) → IsTrue (is_around_list place) → IsTrue (place_fits_in place outer)
    → IsTrue (place_fits_in behind outer && place_fits_in before (Some behind))
before_list_fits_in place behind before None is fits_in = unit_not_around place is fits_in
before_list_fits_in place behind before (Some outer) is fits_in = refl

pub whole_fits_inside : (outer : Option Spot) (kind : Option Kind) → (outer ≡ None → ⊥) → IsTrue (whole_fits_in kind (place_around outer))
whole_fits_inside None kind inside = absurd (inside refl)
whole_fits_inside (Some behind) None inside = refl
whole_fits_inside (Some behind) (Some kind) inside = refl

-- ---- what tokens do in it

-- an item begins, or the unit ends, or the token can't stand there
abbrev pub MovesInUnit : Move → Type 0
MovesInUnit (shifts behind) = ⊥
MovesInUnit (enters behind beginning) = IsTrue (is_unit_list behind)
MovesInUnit (takes behind inner) = ⊥
MovesInUnit (skips other) = ⊥
MovesInUnit (finishes kind) = IsTrue (is_unit_kind kind)
MovesInUnit passes = ⊥
MovesInUnit fails = Unit {0}

ends_unit : (kind : Kind) (category : Category) (beginning : Beginning) → IsTrue (is_unit_kind kind) → MovesInUnit (or_ends (in_list kind category) beginning kind)
ends_unit kind category no_beginning h = h
ends_unit kind category (begins places skipped inner) h = h

in_unit : (place : Place) (token : Terminal) → IsTrue (is_unit_list place) → MovesInUnit (move place token)
in_unit (in_list kind category) token h = ends_unit kind category (begins_part category token) h
in_unit place token h = none_such h

behind_skipped : (count : ℕ) (next : Move) → MovesInUnit (skipping count next) → MovesInUnit next
behind_skipped zero next h = h
behind_skipped (suc n) next h = absurd h

-- behind parts that are left out
pub moves_in_unit : (place : Place) (token : Terminal) (count : ℕ) (next : Move) → move place token ≡ skipping count next → IsTrue (is_unit_list place) → MovesInUnit next
moves_in_unit place token count next is h = behind_skipped count next (subst MovesInUnit is (in_unit place token h))

pub shifts_fit_in : (place behind : Place) (token : Terminal) (count : ℕ) (outer : Option Place) → move place token ≡ skipping count (shifts behind)
    → IsTrue (place_fits_in place outer) → IsTrue (place_fits_in behind outer)
shifts_fit_in place behind token count None is fits_in = absurd (moves_in_unit place token count (shifts behind) is fits_in)
shifts_fit_in place behind token count (Some outer) is fits_in = refl

pub enters_fit_in : (place behind : Place) (beginning : Beginning) (token : Terminal) (count : ℕ) (outer : Option Place) → move place token ≡ skipping count (enters behind beginning)
    → IsTrue (place_fits_in place outer) → IsTrue (place_fits_in behind outer)
enters_fit_in place behind beginning token count None is fits_in = moves_in_unit place token count (enters behind beginning) is fits_in
enters_fit_in place behind beginning token count (Some outer) is fits_in = refl

pub takes_fit_in : (place behind inner : Place) (token : Terminal) (count : ℕ) (outer : Option Place) → move place token ≡ skipping count (takes behind inner)
    → IsTrue (place_fits_in place outer) → IsTrue (is_there outer)
takes_fit_in place behind inner token count None is fits_in = absurd (moves_in_unit place token count (takes behind inner) is fits_in)
takes_fit_in place behind inner token count (Some outer) is fits_in = refl

pub finishes_fit_in : (place : Place) (kind : Kind) (token : Terminal) (count : ℕ) (outer : Option Place) → move place token ≡ skipping count (finishes kind)
    → IsTrue (place_fits_in place outer) → IsTrue (whole_fits_in (Some kind) outer)
finishes_fit_in place kind token count None is fits_in = moves_in_unit place token count (finishes kind) is fits_in
finishes_fit_in place kind token count (Some outer) is fits_in = refl

pub passes_fit_in : (place : Place) (token : Terminal) (count : ℕ) (outer : Option Place) → move place token ≡ skipping count passes
    → IsTrue (place_fits_in place outer) → IsTrue (whole_fits_in None outer)
passes_fit_in place token count None is fits_in = absurd (moves_in_unit place token count passes is fits_in)
passes_fit_in place token count (Some outer) is fits_in = refl
