-- What a step asks of a symbol: seldom more than its kind.
use Rattle.std.proofs.Common.{◌≡◌, ℕ, Bool, true, false, ◌&&◌, List, Option, Some, None, refl, ap}
use Rattle.std.specs.Prelude.{option_map, option_and_then, is_some, if◌then◌else◌}
use Rattle.quick_form.specs.Symbols.{Name, Number, Ifdef, Malformed}
use Rattle.quick_parser.specs.declared.spots.Place.{Place}
use Rattle.quick_parser.specs.declared.spots.Place.TheVariants.{Entry, Declarator, Operand}
use Rattle.quick_parser.specs.declared.spots.Frame.{Frame}
use Rattle.quick_parser.specs.declared.spots.Move.{Move}
use Rattle.quick_parser.specs.Spots.{next_move, moved, innermost, block_count}
use Rattle.quick_parser.specs.Steps.{State, has_room, with_test, is_entry}
use Rattle.quick_parser.specs.Laws.{NamesAreAlike, NumbersAreAlike, TestsStandAtEntries, MalformedIsRefused}

-- the state that a move of no test leads to
abbrev moved_state : State → Option Move → Option State
moved_state s m =
    option_map (λ p. let t : State = record { spot = p; tested_names = s.tested_names } in t)
    (option_map (moved s.spot.open_frames) m)

name_move :
    (p : Place) (f : Option Frame) (n : ℕ) (x y : List ℕ) → next_move p f n (Name x) ≡ next_move p f n (Name y)
name_move Entry f n x y = refl
name_move Declarator f n x y = refl
name_move (Operand e) f n x y = refl
name_move _ f n x y = refl

pub names_are_alike : NamesAreAlike
names_are_alike s x y =
    ap (moved_state s) (name_move s.spot.place (innermost s.spot.open_frames) (block_count s.spot.open_frames) x y)

number_move :
    (p : Place) (f : Option Frame) (n : ℕ) (x y : List ℕ) → next_move p f n (Number x) ≡ next_move p f n (Number y)
number_move Entry f n x y = refl
number_move _ f n x y = refl

pub numbers_are_alike : NumbersAreAlike
numbers_are_alike s x y =
    ap (moved_state s) (number_move s.spot.place (innermost s.spot.open_frames) (block_count s.spot.open_frames) x y)

malformed_move : (p : Place) (f : Option Frame) (n : ℕ) → next_move p f n Malformed ≡ None
malformed_move Entry f n = refl
malformed_move _ f n = refl

pub malformed_is_refused : MalformedIsRefused
malformed_is_refused s =
    ap (moved_state s) (malformed_move s.spot.place (innermost s.spot.open_frames) (block_count s.spot.open_frames))

test_move : (p : Place) (f : Option Frame) (n : ℕ) (x : List ℕ) → is_some (next_move p f n (Ifdef x)) ≡ is_entry p
test_move Entry f n x = refl
test_move _ f n x = refl

-- whether both parts of a step are there
both_there :
    (b c : Bool) (x : List (List ℕ)) (fs : List Frame) (m : Option Move) → is_some m ≡ b
    → is_some (option_and_then
    (λ ns. option_map (λ p. let t : State = record { spot = p; tested_names = ns } in t) (option_map (moved fs) m))
    (if c then Some x else None)) ≡ (b && c)
both_there true true x fs (Some m) e = refl
both_there true false x fs (Some m) e = refl
both_there false true x fs None e = refl
both_there false false x fs None e = refl
both_there true c x fs None e = absurd cc
both_there false c x fs (Some m) e = absurd cc

pub tests_stand_at_entries : TestsStandAtEntries
tests_stand_at_entries s n =
    both_there (is_entry s.spot.place) (has_room s.tested_names n) (with_test s.tested_names n) s.spot.open_frames
    (next_move s.spot.place (innermost s.spot.open_frames) (block_count s.spot.open_frames) (Ifdef n))
    (test_move s.spot.place (innermost s.spot.open_frames) (block_count s.spot.open_frames) n)
