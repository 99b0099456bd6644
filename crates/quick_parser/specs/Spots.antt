-- Where a parser stands: what it waits for, and what is open; and how a symbol moves it.
use Rattle.std.specs.Prelude.{ℕ, zero, suc, ◌==◌, nat_lt, List, [], ◌∷◌, Option, Some, None, if◌then◌else◌, option_map}
use Rattle.quick_form.specs.Symbols.{Symbol, Int, Void, While, Return, Putchar, Main, Name, Number, Mark, Ifdef, Else, Endif}
use Rattle.quick_parser.specs.declared.spots.SumEnd.{SumEnd}
use Rattle.quick_parser.specs.declared.spots.SumEnd.TheVariants.{Statement, Output, Condition}
use Rattle.quick_parser.specs.declared.spots.Place.{Place}
use Rattle.quick_parser.specs.declared.spots.Place.TheVariants.{Entry, Declarator, Declared, Initializer, Semicolon, MainOpening, MainVoid, MainClosing, Body, Assignment, Opening, Operand, Operator}
use Rattle.quick_parser.specs.declared.spots.Frame.{Frame}
use Rattle.quick_parser.specs.declared.spots.Frame.TheVariants.{Block, Group, Alternative}
use Rattle.quick_parser.specs.declared.spots.Move.{Move}
use Rattle.quick_parser.specs.declared.spots.Move.TheVariants.{To, Enter, Turn, Leave}

-- what a parser waits for, and the open blocks and groups, the innermost first
pub record Spot : Type 0 where
  pub place : Place
  pub open_frames : List Frame

-- how many blocks are open; groups open none
abbrev pub block_count : List Frame → ℕ
block_count [] = 0
block_count (Block ∷ fs) = suc (block_count fs)
block_count (Group ∷ fs) = block_count fs
block_count (Alternative ∷ fs) = block_count fs

-- items stand outside blocks, and statements inside
abbrev pub outside : ℕ → Option Move → Option Move
outside zero m = m
outside (suc n) m = None

abbrev pub inside : ℕ → Option Move → Option Move
inside zero m = None
inside (suc n) m = m

-- the mark that is wanted
abbrev pub wanted : ℕ → ℕ → Option Move → Option Move
wanted mark b m = if b == mark then m else None

-- `}` ends a block, `#endif` a group, `#else` the first branch of a group; each by the innermost frame
abbrev pub brace_move : Option Frame → Option Move
brace_move (Some Block) = Some Leave
brace_move f = None

abbrev pub endif_move : Option Frame → Option Move
endif_move (Some Group) = Some Leave
endif_move (Some Alternative) = Some Leave
endif_move f = None

abbrev pub else_move : Option Frame → Option Move
else_move (Some Group) = Some Turn
else_move f = None

-- A symbol where an entry may begin or the list may end, inside n blocks. In 64 blocks no loop can stand.
abbrev pub entry_move : Option Frame → ℕ → Symbol → Option Move
entry_move f n Int = outside n (Some (To Declarator))
entry_move f n (Name x) = inside n (Some (To Assignment))
entry_move f n Putchar = inside n (Some (To (Opening Output)))
entry_move f n Return = inside n (Some (To (Operand Statement)))
entry_move f n While = inside n (if nat_lt n 64 then Some (To (Opening Condition)) else None)
entry_move f n (Mark b) = wanted 125 b (brace_move f)
entry_move f n (Ifdef x) = Some (Enter Group)
entry_move f n Else = else_move f
entry_move f n Endif = endif_move f
entry_move f n k = None

abbrev pub declarator_move : Symbol → Option Move
declarator_move (Name x) = Some (To Declared)
declarator_move Main = Some (To MainOpening)
declarator_move k = None

abbrev pub initializer_move : Symbol → Option Move
initializer_move (Number d) = Some (To Semicolon)
initializer_move k = None

abbrev pub void_move : Symbol → Option Move
void_move Void = Some (To MainClosing)
void_move k = None

abbrev pub operand_move : SumEnd → Symbol → Option Move
operand_move e (Name x) = Some (To (Operator e))
operand_move e (Number d) = Some (To (Operator e))
operand_move e k = None

-- where one mark is wanted
abbrev pub mark_move : ℕ → Move → Symbol → Option Move
mark_move mark m (Mark b) = wanted mark b (Some m)
mark_move mark m k = None

-- behind a declared name: `=` or `;`
abbrev pub declared_move : Symbol → Option Move
declared_move (Mark b) = if b == 61 then Some (To Initializer) else wanted 59 b (Some (To Entry))
declared_move k = None

-- the end of a sum: its mark, and what comes behind
abbrev pub end_mark : SumEnd → ℕ
end_mark Statement = 59
end_mark Output = 41
end_mark Condition = 41

abbrev pub end_move : SumEnd → Move
end_move Statement = To Entry
end_move Output = To Semicolon
end_move Condition = To Body

-- behind an operand: `+`, `-` or the sum's end
abbrev pub operator_move : SumEnd → Symbol → Option Move
operator_move e (Mark b) =
    if b == 43 then Some (To (Operand e)) else if b == 45 then Some (To (Operand e))
    else wanted (end_mark e) b (Some (end_move e))
operator_move e k = None

-- what a symbol does, by the place, the innermost frame and the number of blocks
abbrev pub next_move : Place → Option Frame → ℕ → Symbol → Option Move
next_move Entry f n k = entry_move f n k
next_move Declarator f n k = declarator_move k
next_move Declared f n k = declared_move k
next_move Initializer f n k = initializer_move k
next_move Semicolon f n k = mark_move 59 (To Entry) k
next_move MainOpening f n k = mark_move 40 (To MainVoid) k
next_move MainVoid f n k = void_move k
next_move MainClosing f n k = mark_move 41 (To Body) k
next_move Body f n k = mark_move 123 (Enter Block) k
next_move Assignment f n k = mark_move 61 (To (Operand Statement)) k
next_move (Opening e) f n k = mark_move 40 (To (Operand e)) k
next_move (Operand e) f n k = operand_move e k
next_move (Operator e) f n k = operator_move e k

abbrev pub innermost : List Frame → Option Frame
innermost [] = None
innermost (f ∷ fs) = Some f

-- the frames without the innermost; in the other branch of a group
abbrev pub left_frames : List Frame → List Frame
left_frames [] = []
left_frames (f ∷ fs) = fs

abbrev pub turned_frames : List Frame → List Frame
turned_frames (Group ∷ fs) = Alternative ∷ fs
turned_frames fs = fs

abbrev pub moved : List Frame → Move → Spot
moved fs (To p) = record { place = p; open_frames = fs }
moved fs (Enter f) = record { place = Entry; open_frames = f ∷ fs }
moved fs Turn = record { place = Entry; open_frames = turned_frames fs }
moved fs Leave = record { place = Entry; open_frames = left_frames fs }

-- the move of a symbol at a spot, and the spot behind it, if the grammar lets it stand there
abbrev pub spot_move : Spot → Symbol → Option Move
spot_move p k = next_move p.place (innermost p.open_frames) (block_count p.open_frames) k

abbrev pub advanced : Spot → Symbol → Option Spot
advanced p k = option_map (moved p.open_frames) (spot_move p k)
