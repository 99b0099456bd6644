-- The shortest end of a file at a spot: no state is a dead end.
use Rattle.std.specs.Prelude.{List, [], ◌∷◌}
use Rattle.quick_form.specs.Symbols.{Symbol, Void, Name, Number, Mark, Endif}
use Rattle.quick_parser.specs.declared.spots.SumEnd.{SumEnd}
use Rattle.quick_parser.specs.declared.spots.SumEnd.TheVariants.{Statement, Output, Condition}
use Rattle.quick_parser.specs.declared.spots.Place.{Place}
use Rattle.quick_parser.specs.declared.spots.Place.TheVariants.{Entry, Declarator, Declared, Initializer, Semicolon, MainOpening, MainVoid, MainClosing, Body, Assignment, Opening, Operand, Operator}
use Rattle.quick_parser.specs.declared.spots.Frame.{Frame}
use Rattle.quick_parser.specs.declared.spots.Frame.TheVariants.{Block, Group, Alternative}
use Rattle.quick_parser.specs.Steps.{State}

-- the ends of the open frames
abbrev pub closing_symbols : List Frame → List Symbol
closing_symbols [] = []
closing_symbols (Block ∷ fs) = Mark 125 ∷ closing_symbols fs
closing_symbols (Group ∷ fs) = Endif ∷ closing_symbols fs
closing_symbols (Alternative ∷ fs) = Endif ∷ closing_symbols fs

-- an empty block; the end of a sum; each followed by the symbols k
abbrev pub empty_block : List Symbol → List Symbol
empty_block k = Mark 123 ∷ Mark 125 ∷ k

abbrev pub sum_ending : SumEnd → List Symbol → List Symbol
sum_ending Statement k = Mark 59 ∷ k
sum_ending Output k = Mark 41 ∷ Mark 59 ∷ k
sum_ending Condition k = Mark 41 ∷ empty_block k

-- the number 0 and the end of its sum
abbrev pub zero_sum : SumEnd → List Symbol → List Symbol
zero_sum e k = Number (48 ∷ []) ∷ sum_ending e k

-- the end of the entry that stands at a place, followed by the symbols k
abbrev pub entry_ending : Place → List Symbol → List Symbol
entry_ending Entry k = k
entry_ending Declarator k = Name (97 ∷ []) ∷ Mark 59 ∷ k
entry_ending Declared k = Mark 59 ∷ k
entry_ending Initializer k = Number (48 ∷ []) ∷ Mark 59 ∷ k
entry_ending Semicolon k = Mark 59 ∷ k
entry_ending MainOpening k = Mark 40 ∷ Void ∷ Mark 41 ∷ empty_block k
entry_ending MainVoid k = Void ∷ Mark 41 ∷ empty_block k
entry_ending MainClosing k = Mark 41 ∷ empty_block k
entry_ending Body k = empty_block k
entry_ending Assignment k = Mark 61 ∷ zero_sum Statement k
entry_ending (Opening e) k = Mark 40 ∷ zero_sum e k
entry_ending (Operand e) k = zero_sum e k
entry_ending (Operator e) k = sum_ending e k

-- symbols that make a whole file of what was read: the entry's end, and those of the open frames
abbrev pub completion : State → List Symbol
completion s = entry_ending s.spot.place (closing_symbols s.spot.open_frames)
