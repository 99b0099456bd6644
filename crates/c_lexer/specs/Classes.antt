-- The classes of pieces by their first bytes, and what a piece of a class is.
use Rattle.std.specs.Prelude.{◌≡◌, ℕ, ◌<◌, ◌≤◌, List, length, take, if◌then◌else◌, Some, None}
use Rattle.c_names.specs.Names.{is_keyword}
use Rattle.c_text.specs.declared.token.BadKind.TheVariants.{BadByte, OpenComment, OpenQuote}
use Rattle.c_text.specs.declared.token.TokenKind.TheVariants.{Name, Keyword, Number, Character, Text, Punctuator, Bad}
use Rattle.c_text.specs.Constants.{is_integer, is_character, is_text}
use Rattle.c_text.specs.Pieces.{PieceKind, space, line_end, token, bad_unless, piece_of}
use Rattle.c_lexer.specs.declared.classes.Class.{Class}
use Rattle.c_lexer.specs.declared.classes.Class.TheVariants as class

-- what these bytes are as a piece of the class
abbrev pub kind_in : Class → List ℕ → PieceKind
kind_in class.Newline w = line_end
kind_in class.Space w = space
kind_in class.Name w = token (if is_keyword w then Keyword else Name)
kind_in class.Number w = token (bad_unless (is_integer w) Number)
kind_in class.Character w = token (bad_unless (is_character w) Character)
kind_in class.Text w = token (bad_unless (is_text w) Text)
kind_in class.Punctuator w = token Punctuator
kind_in class.OpenComment w = token (Bad OpenComment)
kind_in class.OpenQuote w = token (Bad OpenQuote)
kind_in class.Byte w = token (Bad BadByte)

-- The text begins with a piece of this length and kind, and with no longer one.
pub record IsLongestPiece (text : List ℕ) (n : ℕ) (kind : PieceKind) : Type 0 where
  pub some : 0 < n
  pub within : n ≤ length text
  pub is_piece : piece_of (take n text) ≡ Some kind
  pub longest : (m : ℕ) → n < m → m ≤ length text → piece_of (take m text) ≡ None
