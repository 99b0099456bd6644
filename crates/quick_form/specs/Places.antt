-- The place of `not quick`: the offset at which a file that isn't taken is at fault.
use Rattle.std.specs.Prelude.{◌≡◌, ◌⊎◌, ℕ, ◌+◌, ◌-◌, ◌<◌, ◌≤◌, Bool, false, List, [], ◌∷◌, ◌++◌, length, take, map, Option, Some, None, if◌then◌else◌}
use Rattle.std.specs.List.{list_all, list_any}
use Rattle.std.specs.Str.{bytes_eq}
use Rattle.quick_form.specs.Words.{is_blank}
use Rattle.quick_form.specs.Symbols.{Symbol, Name, Ifdef, Piece, piece_bytes, pieces_of, piece_symbols, solid_pieces, is_directive_line, after_first_piece, directive_symbol, lines_of, symbols_of, tested_names, uses, mentions}
use Rattle.quick_form.specs.Form.{IsWritten, IsForm, declared_names}
use Rattle.quick_form.specs.Quick.{Takes}

-- FAULTS OF THE FORM

-- more bytes make a file of the form, taken without its limit of bytes
abbrev pub IsFormPrefix : List ℕ → Type 0
IsFormPrefix bytes = (more : List ℕ) × IsWritten (symbols_of (bytes ++ more))

-- no file of the form begins with the first i + 1 bytes
pub record Departs (bytes : List ℕ) (i : ℕ) : Type 0 where
  pub within : i < length bytes
  pub begins_none : IsFormPrefix (take (i + 1) bytes) → ⊥

-- the whole begins a file of the form and is none, and i is its length
pub record BreaksOff (bytes : List ℕ) (i : ℕ) : Type 0 where
  pub at_end : i ≡ length bytes
  pub begins : IsFormPrefix bytes
  pub unfinished : IsWritten (symbols_of bytes) → ⊥

-- the least number with a property
pub record IsLeast (P : ℕ → Type 0) (i : ℕ) : Type 0 where
  pub holds : P i
  pub least : (j : ℕ) → P j → i ≤ j

-- the place of the fault of a text, its length aside
abbrev pub IsFaultOfText : List ℕ → ℕ → Type 0
IsFaultOfText bytes i = IsLeast (Departs bytes) i ⊎ BreaksOff bytes i

-- more than 16,777,216 bytes, with no fault below that number
pub record PassesLimit (bytes : List ℕ) (i : ℕ) : Type 0 where
  pub longer : 16777216 < length bytes
  pub at_limit : i ≡ 16777216
  pub none_below : (j : ℕ) → IsFaultOfText bytes j → 16777216 ≤ j

-- the place of the fault of the form
abbrev pub IsFaultOfForm : List ℕ → ℕ → Type 0
IsFaultOfForm bytes i = (IsFaultOfText bytes i × i ≤ 16777216) ⊎ PassesLimit bytes i

-- THE PLACES OF NAMES

-- a symbol, and the offset behind its last byte
pub record Placed : Type 0 where
  pub symbol : Symbol
  pub end : ℕ

-- the symbols of pieces of which the first begins at offset i
abbrev pub placed_pieces : ℕ → List Piece → List Placed
placed_pieces i [] = []
placed_pieces i (p ∷ ps) =
    map (λ k. record { symbol = k; end = i + length (piece_bytes p) }) (piece_symbols p)
    ++ placed_pieces (i + length (piece_bytes p)) ps

-- the length of a line without the blanks and tabs at its end
abbrev pub solid_length : List ℕ → ℕ
solid_length [] = 0
solid_length (b ∷ bs) = if list_all is_blank (b ∷ bs) then 0 else solid_length bs + 1

-- the symbols of a line that begins at offset i; a directive line ends with the name that it tests
abbrev pub placed_line : ℕ → List ℕ → List Placed
placed_line i line =
    if is_directive_line (solid_pieces line)
    then record { symbol = directive_symbol (after_first_piece (solid_pieces line)); end = i + solid_length line } ∷ []
    else placed_pieces i (pieces_of line)

-- lines, each behind a newline but for the first
abbrev pub placed_lines : ℕ → List (List ℕ) → List Placed
placed_lines i [] = []
placed_lines i (line ∷ lines) = placed_line i line ++ placed_lines (i + length line + 1) lines

abbrev pub placed_symbols : List ℕ → List Placed
placed_symbols bytes = placed_lines 0 (lines_of bytes)

-- the name of a symbol that has one
abbrev pub name_of : Symbol → List ℕ
name_of (Name n) = n
name_of (Ifdef n) = n
name_of k = []

-- where the name of the first symbol with a property begins
abbrev pub first_name : (Symbol → Bool) → List Placed → Option ℕ
first_name p [] = None
first_name p (k ∷ ks) = if p k.symbol then Some (k.end - length (name_of k.symbol)) else first_name p ks

-- where a name stands first, in an `#ifdef` too; where a tested name stands first outside directive lines
abbrev pub first_mention : List ℕ → List ℕ → Option ℕ
first_mention n bytes = first_name (mentions n) (placed_symbols bytes)

abbrev pub first_tested : List ℕ → Option ℕ
first_tested bytes = first_name (λ k. list_any (λ n. uses n k) (tested_names (symbols_of bytes))) (placed_symbols bytes)

-- THE PLACE

-- the file is of the form, and new stands in it
pub record MentionsNew (new bytes : List ℕ) (i : ℕ) : Type 0 where
  pub form : IsForm bytes
  pub first : first_mention new bytes ≡ Some i

-- .. new doesn't, and a tested name stands outside directive lines
pub record UsesTested (new bytes : List ℕ) (i : ℕ) : Type 0 where
  pub form : IsForm bytes
  pub unused : first_mention new bytes ≡ None
  pub first : first_tested bytes ≡ Some i

-- .. none does, and old isn't declared
pub record LacksOld (old new bytes : List ℕ) (i : ℕ) : Type 0 where
  pub form : IsForm bytes
  pub unused : first_mention new bytes ≡ None
  pub apart : first_tested bytes ≡ None
  pub undeclared : list_any (bytes_eq old) (declared_names form.written.items) ≡ false
  pub at_end : i ≡ length bytes

-- the place of `not quick` for a renaming of old to new: that of the first of these faults
pub data IsPlace (old new bytes : List ℕ) (i : ℕ) : Type 0 where
  faulty_form : IsFaultOfForm bytes i → IsPlace old new bytes i
  new_occurs : MentionsNew new bytes i → IsPlace old new bytes i
  tested_occurs : UsesTested new bytes i → IsPlace old new bytes i
  old_undeclared : LacksOld old new bytes i → IsPlace old new bytes i

-- LAWS, each the contract of a function of this crate

-- a file has one place at most
abbrev pub PlacesAreOne : Type 0
PlacesAreOne = (old new bytes : List ℕ) (i j : ℕ) → IsPlace old new bytes i → IsPlace old new bytes j → i ≡ j

-- a file that is taken has none
abbrev pub TakenHasNoPlace : Type 0
TakenHasNoPlace = (old new bytes : List ℕ) (i : ℕ) → Takes old new bytes → IsPlace old new bytes i → ⊥

-- the placed symbols of a file are its symbols
abbrev pub PlacedSymbolsAreSpelled : Type 0
PlacedSymbolsAreSpelled = (bytes : List ℕ) → map (λ k. k.symbol) (placed_symbols bytes) ≡ symbols_of bytes
