-- Texts cut into lines, and lines cut into what was read and what is left.
use Rattle.std.specs.Prelude.{◌≡◌, ◌⊎◌, ℕ, ◌==◌, Bool, true, false, List, ◌∷◌, [], ◌++◌, length, is_some, if◌then◌else◌}
use Rattle.std.specs.List.{AllByRecursion, flat_map}
use Rattle.quick_form.specs.Words.{begins_in_word}
use Rattle.quick_form.specs.Symbols.{Symbol, Piece, piece_symbols, solid_pieces, is_directive_line, after_first_piece, directive_symbol, symbols_of}
use Rattle.quick_parser.specs.Steps.{State, steps}

-- no newline stands in the bytes
abbrev pub IsOneLine : List ℕ → Type 0
IsOneLine = AllByRecursion (λ b. (b == 10) ≡ false)

-- what follows a line: nothing, or a newline and more
abbrev pub IsEndOfLine : List ℕ → Type 0
IsEndOfLine rest = (rest ≡ []) ⊎ (more : List ℕ) × (rest ≡ 10 ∷ more)

-- a line begins behind the bytes: whatever follows, they spell these symbols
abbrev pub Opens : List ℕ → List Symbol → Type 0
Opens before ks = (rest : List ℕ) → symbols_of (before ++ rest) ≡ ks ++ symbols_of rest

-- The line ends with the text, and what stands before it has these pieces, blanks and tabs aside. They stay so whatever
-- stands in place of the text, if that doesn't lengthen a word.
pub record Cut (line text : List ℕ) (ps : List Piece) : Type 0 where
  pub before : List ℕ
  pub joined : line ≡ before ++ text
  pub pieces : (rest : List ℕ) → (begins_in_word rest ≡ true → begins_in_word text ≡ true) → solid_pieces (before ++ rest) ≡ ps ++ solid_pieces rest

-- FAULTS WITHIN A LINE

-- Bytes of the line that can stand, being `good` with more behind them, and no more can: whatever follows the next byte.
pub record FaultAt (good : List Piece → Bool) (line : List ℕ) (n : ℕ) : Type 0 where
  pub front : List ℕ
  pub back : List ℕ
  pub joined : line ≡ front ++ back
  pub count_is : n ≡ length front
  pub more : List ℕ
  pub one_line : IsOneLine more
  pub live : good (solid_pieces (front ++ more)) ≡ true
  pub dead : (b : ℕ) (bs : List ℕ) → back ≡ b ∷ bs → (rest : List ℕ) → good (solid_pieces (front ++ b ∷ rest)) ≡ false

-- the symbols of a line with these pieces, blanks and tabs aside
abbrev pub line_spelling : List Piece → List Symbol
line_spelling ps = if is_directive_line ps then directive_symbol (after_first_piece ps) ∷ [] else flat_map piece_symbols ps

-- whether a parser takes them, as tokens and as a whole line
abbrev pub takes_tokens : State → List Piece → Bool
takes_tokens s ps = is_some (steps s (flat_map piece_symbols ps))

abbrev pub takes_line : State → List Piece → Bool
takes_line s ps = is_some (steps s (line_spelling ps))

-- n bytes of the text, a whole directive line or the tokens that are left of a line, can stand behind what was read
pub record StopFault (s : State) (is_directive : Bool) (text : List ℕ) (n : ℕ) : Type 0 where
  pub in_directive : is_directive ≡ true → FaultAt (takes_line s) text n
  pub in_tokens : is_directive ≡ false → FaultAt (takes_tokens s) text n
