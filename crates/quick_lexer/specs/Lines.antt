-- Lines by what they begin with.
use Rattle.std.specs.Prelude.{◌≡◌, ℕ, Bool, true, false, List, [], ◌∷◌, ◌++◌}
use Rattle.std.specs.List.{list_all}
use Rattle.quick_form.specs.Words.{is_blank, is_word_byte, begins_in_word}
use Rattle.quick_form.specs.Symbols.{Piece, Word, Other, Symbol, piece_bytes, piece_symbols}

abbrev pub begins_with_blank : List ℕ → Bool
begins_with_blank [] = false
begins_with_blank (b ∷ bs) = is_blank b

-- a piece is cut off whole: a word is at least one letter, digit or `_`, and none follows it
abbrev pub IsPiece : Piece → List ℕ → Type 0
IsPiece (Word w) rest = (begins_in_word w ≡ true) × (list_all is_word_byte w ≡ true) × (begins_in_word rest ≡ false)
IsPiece (Other b) rest = is_word_byte b ≡ false

-- blanks and tabs, the bytes of a piece, and the rest make up the line
pub record BeginsWith (line : List ℕ) (piece : Piece) (rest : List ℕ) : Type 0 where
  pub blanks : List ℕ
  pub are_blank : list_all is_blank blanks ≡ true
  pub joined : line ≡ blanks ++ (piece_bytes piece ++ rest)
  pub cut : IsPiece piece rest

-- the same, with a piece that is a symbol
pub record BeginsWithSymbol (line : List ℕ) (symbol : Symbol) (rest : List ℕ) : Type 0 where
  pub piece : Piece
  pub spells : piece_symbols piece ≡ symbol ∷ []
  pub begins : BeginsWith line piece rest
