-- Nodes that have begun, the innermost first.
use Rattle.std.proofs.Common.{◌≡◌, ℕ, zero, suc, Bool, true, false, List, [], ◌∷◌, ◌++◌, Option, Some, None, drop, refl, sym, ap, ◌∙◌, append_assoc, append-nil}
use Rattle.c_tree.specs.declared.kinds.Kind.{Kind}
use Rattle.c_tree.specs.declared.terminals.Terminal.{Terminal}
use Rattle.c_tree.specs.declared.terminals.Terminal.TheVariants.{Void}
use Rattle.c_tree.specs.Grammar.{Slot}
use Rattle.c_tree.specs.Places.{Place, Move, inside, in_brackets, operand, specifying, declaring, declarator_at, parameters_read, parameter_at, parameter_begins, parameter_declared, operator, specified, declared, declarator_read, parameter_read, parameter_typed, level_at, words_at, flavour_at, naming_at, specified_by, joined_naming, are_same, move, back}
use Rattle.c_tree.specs.Machine.{Frame, frame, Outcome, moved, arrives, outcome}
use Rattle.grammar_moves.specs.declared.places.Place.{Place as Spot}
use Rattle.grammar_moves.specs.PlainPlaces.{plain_place}
use Rattle.grammar_moves.specs.PlainMoves.{skipping}
use Rattle.choice_states.specs.Seen.{Seen, Parts, nothing_seen, of_seen}
use Rattle.choice_states.specs.Parts.{is_empty, values}
use Rattle.choice_states.specs.Lists.{left_out, around_of, without_list, frames_at, IsInside}
use Rattle.choice_states.specs.States.{arriving}
use Rattle.choice_settling.specs.Steps.{IsAround, HasBegun}
use Rattle.choice_settling.specs.Around.{IsNoListAround}
use Rattle.choice_settling.specs.LeftOut.{nothings}

none_such : {A : Type 0} → true ≡ false → A
none_such h = cc

-- ---- nodes that have begun

none_around_inside : (kind : Kind) (slots : List Slot) (behind : Place) → around_of (inside kind slots) behind ≡ []
none_around_inside kind slots (inside outer others) = refl
none_around_inside kind slots behind = refl

pub frames_inside : (place : Place) (parts : List Seen) (frames : List (Frame Seen)) → IsInside place → frames_at place parts frames ≡ frame place parts ∷ frames
frames_inside (inside kind slots) [] [] is = refl
frames_inside (inside kind slots) [] (outer ∷ frames) is = ap (λ places. without_list places (inside kind slots) outer frames) (none_around_inside kind slots outer.place)
frames_inside (inside kind slots) (first ∷ rest) frames is = refl
frames_inside place parts frames is = absurd is

pub frames_some : (place : Place) (values : List Seen) (frames : List (Frame Seen)) → is_empty values ≡ false → frames_at place values frames ≡ frame place values ∷ frames
frames_some place [] frames some = none_such some
frames_some place (first ∷ rest) frames some = refl

pub frames_pushed : (place : Place) (values : List Seen) (last : Seen) (frames : List (Frame Seen)) → frames_at place (values ++ last ∷ []) frames ≡ frame place (values ++ last ∷ []) ∷ frames
frames_pushed place [] last frames = refl
frames_pushed place (first ∷ rest) last frames = refl

-- a node with a part has begun
pub begun_some : (outer : Option Spot) (place : Place) (parts : Parts) → is_empty (values parts) ≡ false → HasBegun outer place parts
begun_some outer place parts some = λ frames around. frames_some place (values parts) frames some

begun_empty : (outer : Option Spot) (place : Spot) (frames : List (Frame Seen)) → IsNoListAround place outer → IsAround outer frames
    → frames_at (plain_place place) [] frames ≡ frame (plain_place place) [] ∷ frames
begun_empty None place [] none around = refl
begun_empty None place (node ∷ frames) none around = absurd around
begun_empty (Some behind) place [] none around = absurd around
begun_empty (Some behind) place (node ∷ frames) none around =
    ap (λ p. without_list (around_of (plain_place place) p) (plain_place place) node frames) around ∙ ap (λ places. without_list places (plain_place place) node frames) none

begun_with : (outer : Option Spot) (place : Spot) (parts : List Seen) (frames : List (Frame Seen)) → IsNoListAround place outer → IsAround outer frames
    → frames_at (plain_place place) parts frames ≡ frame (plain_place place) parts ∷ frames
begun_with outer place [] frames none around = begun_empty outer place frames none around
begun_with outer place (first ∷ rest) frames none around = refl

-- so has one that is no list
pub begun_no_list : (outer : Option Spot) (place : Spot) (parts : Parts) → IsNoListAround place outer → HasBegun outer (plain_place place) parts
begun_no_list outer place parts none = λ frames around. begun_with outer place (values parts) frames none around

-- behind a part that is whole the node goes on as the reader does
pub arrives_so :
    (place ended : Place) (values : List Seen) (part : Seen) (frames : List (Frame Seen)) (kind : Terminal) (token : Seen)
    → outcome of_seen kind token (frames_at (back place ended) (values ++ part ∷ []) frames) ≡ arriving (Some part) ended (frame place values ∷ frames) kind token
arrives_so place ended values part frames kind token = ap (λ fs. outcome of_seen kind token fs) (frames_pushed (back place ended) values part frames)

-- ---- parts that are left out

nothings_behind : (n : ℕ) → nothings n ++ nothing_seen ∷ [] ≡ nothings (suc n)
nothings_behind zero = refl
nothings_behind (suc n) = ap (λ vs. nothing_seen ∷ vs) (nothings_behind n)

pub nothings_more : (n : ℕ) (values : List Seen) → (values ++ nothings n) ++ nothing_seen ∷ [] ≡ values ++ nothings (suc n)
nothings_more n values = append_assoc values (nothings n) (nothing_seen ∷ []) ∙ ap (λ vs. values ++ vs) (nothings_behind n)

pub moved_skipping :
    (place : Place) (values : List Seen) (count : ℕ) (next : Move) (token : Seen) (frames : List (Frame Seen)) (ends : Seen → Outcome Seen)
    → moved of_seen place values (skipping count next) token frames ends ≡ moved of_seen place (values ++ nothings count) next token frames ends
moved_skipping place values zero next token frames ends = ap (λ vs. moved of_seen place vs next token frames ends) (sym (append-nil values))
moved_skipping place values (suc n) next token frames ends =
    moved_skipping place (values ++ nothing_seen ∷ []) n next token frames ends
    ∙ ap (λ vs. moved of_seen place vs next token frames ends) (append_assoc values (nothing_seen ∷ []) (nothings n))

same_back : (behind ended other : Place) → level_at other ≡ level_at ended → words_at other ≡ words_at ended → flavour_at other ≡ flavour_at ended → naming_at other ≡ naming_at ended
    → back behind other ≡ back behind ended
same_back (operand wanted) ended other levels words flavours namings = ap (operator wanted) levels
same_back specifying ended other levels words flavours namings = ap (λ w. specified (specified_by w)) words
same_back (declaring inline) ended other levels words flavours namings = ap (declared inline) flavours
same_back (declarator_at role) ended other levels words flavours namings = ap (declarator_read role) flavours
same_back (parameters_read role flavour) ended other levels words flavours namings = ap (parameters_read role) flavours
same_back (parameter_at inline before) ended other levels words flavours namings = ap (λ n. parameter_read inline (joined_naming before n)) namings
same_back (parameter_begins inline) ended other levels words flavours namings = ap (λ w. parameter_typed inline (are_same w (Void ∷ []))) words
same_back (parameter_declared naming) ended other levels words flavours namings = ap parameter_declared namings
same_back behind ended other levels words flavours namings = refl

brackets_naming : (has_name : Bool) (slots others : List Slot) → naming_at (in_brackets has_name others) ≡ naming_at (in_brackets has_name slots)
brackets_naming true slots others = refl
brackets_naming false slots others = refl

-- what a node is to the one around it doesn't depend on what is left out in it
pub back_left_out : (count : ℕ) (place behind : Place) → back behind (left_out count place) ≡ back behind place
back_left_out count (inside kind slots) behind = same_back behind (inside kind slots) (left_out count (inside kind slots)) refl refl refl refl
back_left_out count (in_brackets has_name slots) behind =
    same_back behind (in_brackets has_name slots) (left_out count (in_brackets has_name slots)) refl refl refl (brackets_naming has_name slots (drop count slots))
back_left_out count place behind = refl

-- ---- nodes that are whole

pub arriving_alike :
    (part : Option Seen) (ended other : Place) (frames : List (Frame Seen)) (kind : Terminal) (token : Seen) → ((behind : Place) → back behind other ≡ back behind ended)
    → arriving part other frames kind token ≡ arriving part ended frames kind token
arriving_alike None ended other frames kind token same = refl
arriving_alike (Some part) ended other [] kind token same = refl
arriving_alike (Some part) ended other (inner ∷ frames) kind token same =
    ap (λ p. moved of_seen p (inner.parts ++ part ∷ []) (move p kind) token frames (λ whole. arrives of_seen kind token whole p frames)) (same inner.place)
