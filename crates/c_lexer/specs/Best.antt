-- The longest piece among those of some classes.
use Rattle.std.specs.Prelude.{◌≡◌, ℕ, ◌<◌, ◌≤◌, List, length, take, Option, Some, None}
use Rattle.c_text.specs.Pieces.{PieceKind}
use Rattle.c_lexer.specs.declared.classes.Best.{Best}
use Rattle.c_lexer.specs.Classes.{kind_in}

-- its length and class, where the function says what texts of these classes are
pub record IsBest (of : List ℕ → Option PieceKind) (text : List ℕ) (best : Best) : Type 0 where
  pub some : 0 < best.length
  pub within : best.length ≤ length text
  pub is_piece : of (take best.length text) ≡ Some (kind_in best.class (take best.length text))
  pub longest : (m : ℕ) → best.length < m → m ≤ length text → of (take m text) ≡ None
