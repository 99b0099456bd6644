-- What the bytes of a file spell: the tokens of its lines, each directive line being one symbol.
use Rattle.std.specs.Prelude.{ℕ, Bool, false, ◌==◌, not, List, [], ◌∷◌, codes, if◌then◌else◌, filter}
use Rattle.std.specs.List.{flat_map, slice_split}
use Rattle.std.specs.Str.{bytes_eq}
use Rattle.c_names.specs.Bytes.{hash, newline}
use Rattle.quick_form.specs.Words.{is_word_byte, is_blank, is_name, is_number}

pub data Symbol : Type 0 where
  -- words with a meaning of their own
  Int : Symbol
  Void : Symbol
  While : Symbol
  Return : Symbol
  Putchar : Symbol
  Main : Symbol
  Name : List ℕ → Symbol
  -- a number, by its digits
  Number : List ℕ → Symbol
  -- any other byte
  Mark : ℕ → Symbol
  -- directive lines
  Ifdef : List ℕ → Symbol
  Else : Symbol
  Endif : Symbol
  -- a word or a directive line that stands in no file of the form
  Malformed : Symbol

-- a piece of a line: a longest run of letters, digits and `_`, or one other byte
pub data Piece : Type 0 where
  Word : List ℕ → Piece
  Other : ℕ → Piece

abbrev pub piece_bytes : Piece → List ℕ
piece_bytes (Word w) = w
piece_bytes (Other b) = b ∷ []

-- the pieces of a line that begins with a letter, digit or `_`, given those of what follows
abbrev pub with_letter : ℕ → List Piece → List Piece
with_letter b [] = Word (b ∷ []) ∷ []
with_letter b (Word w ∷ ps) = Word (b ∷ w) ∷ ps
with_letter b (Other c ∷ ps) = Word (b ∷ []) ∷ Other c ∷ ps

abbrev pub pieces_of : List ℕ → List Piece
pieces_of [] = []
pieces_of (b ∷ bs) = if is_word_byte b then with_letter b (pieces_of bs) else Other b ∷ pieces_of bs

-- a word as a symbol
abbrev pub word_symbol : List ℕ → Symbol
word_symbol w =
    if bytes_eq w (codes "int") then Int
    else if bytes_eq w (codes "void") then Void
    else if bytes_eq w (codes "while") then While
    else if bytes_eq w (codes "return") then Return
    else if bytes_eq w (codes "putchar") then Putchar
    else if bytes_eq w (codes "main") then Main
    else if is_name w then Name w
    else if is_number w then Number w
    else Malformed

-- blanks and tabs spell nothing
abbrev pub piece_symbols : Piece → List Symbol
piece_symbols (Word w) = word_symbol w ∷ []
piece_symbols (Other b) = if is_blank b then [] else Mark b ∷ []

-- a directive line, by the words behind its `#`
abbrev pub directive_symbol : List Piece → Symbol
directive_symbol (Word d ∷ Word n ∷ []) =
    if bytes_eq d (codes "ifdef") then (if is_name n then Ifdef n else Malformed) else Malformed
directive_symbol (Word d ∷ []) =
    if bytes_eq d (codes "else") then Else else if bytes_eq d (codes "endif") then Endif else Malformed
directive_symbol ps = Malformed

abbrev pub is_blank_piece : Piece → Bool
is_blank_piece (Word w) = false
is_blank_piece (Other b) = is_blank b

-- the pieces of a line but for blanks and tabs
abbrev pub solid_pieces : List ℕ → List Piece
solid_pieces line = filter (λ p. not (is_blank_piece p)) (pieces_of line)

-- a directive line has `#` first, blanks and tabs aside (6.10)
abbrev pub is_directive_line : List Piece → Bool
is_directive_line (Other b ∷ ps) = b == hash
is_directive_line ps = false

abbrev pub after_first_piece : List Piece → List Piece
after_first_piece [] = []
after_first_piece (p ∷ ps) = ps

abbrev pub line_symbols : List ℕ → List Symbol
line_symbols line =
    if is_directive_line (solid_pieces line) then directive_symbol (after_first_piece (solid_pieces line)) ∷ []
    else flat_map piece_symbols (pieces_of line)

-- the lines of a text, without their newlines
abbrev pub lines_of : List ℕ → List (List ℕ)
lines_of bytes = slice_split (λ b. b == newline) bytes

abbrev pub symbols_of : List ℕ → List Symbol
symbols_of bytes = flat_map line_symbols (lines_of bytes)

-- whether a symbol is the name n outside directive lines; whether it is n there or in an `#ifdef`
abbrev pub uses : List ℕ → Symbol → Bool
uses n (Name m) = bytes_eq n m
uses n s = false

abbrev pub mentions : List ℕ → Symbol → Bool
mentions n (Name m) = bytes_eq n m
mentions n (Ifdef m) = bytes_eq n m
mentions n s = false

-- the names that `#ifdef` lines test, each where it is tested first
abbrev pub tested_names : List Symbol → List (List ℕ)
tested_names [] = []
tested_names (Ifdef n ∷ ks) = n ∷ filter (λ m. not (bytes_eq m n)) (tested_names ks)
tested_names (k ∷ ks) = tested_names ks
