-- A walk over the symbols of a file.
use Rattle.std.specs.Prelude.{◌≡◌, ℕ, ◌+◌, ◌-◌, true, false, List, [], ◌∷◌, ◌++◌, length, map, Option, Some, None}
use Rattle.std.specs.List.{flat_map}
use Rattle.std.specs.Borrow.{Bor}
use Rattle.quick_form.specs.Symbols.{Symbol, Piece, piece_symbols, solid_pieces, is_directive_line, lines_of, line_symbols}
use Rattle.quick_form.specs.Places.{Placed, placed_lines}
use Rattle.quick_lexer.specs.View.{token_symbols}
use Rattle.quick_rename.specs.Cuts.{IsOneLine, IsEndOfLine, Opens, Cut}
use Rattle.quick_rename.specs.declared.visit.Stop.{Stop}

abbrev pub placed : Symbol → ℕ → Placed
placed k i = record { symbol = k; end = i }

abbrev pub spelled : List Placed → List Symbol
spelled ks = map (λ k. k.symbol) ks

-- the lines of a text, if there is one; their symbols, where the text ends a file of n bytes
abbrev pub lines_in : Option (Bor (List ℕ)) → List (List ℕ)
lines_in None = []
lines_in (Some text) = lines_of text.now

abbrev pub placed_in : ℕ → Option (Bor (List ℕ)) → List Placed
placed_in n None = []
placed_in n (Some text) = placed_lines (n - length text.now) (lines_of text.now)

-- all the symbols were taken
abbrev pub TakesAll : {V : Type 0} → (V → List Placed → Type 0) → V → V → List Placed → Type 0
TakesAll took before after ks = (front : List Placed) → took before front → took after (front ++ ks)

-- one of them was refused, and those before it were taken; the place is told by these and by the one refused
pub record StopsIn (took refuses : List Placed → Type 0) (place : List Symbol → Symbol → Type 0) (ks front : List Placed) : Type 0 where
  pub taken : List Placed
  pub stopper : Placed
  pub rest : List Placed
  pub symbols_are : ks ≡ taken ++ stopper ∷ rest
  pub stays : took (front ++ taken)
  pub refused : refuses (front ++ (taken ++ stopper ∷ []))
  pub here : place (spelled taken) stopper.symbol

abbrev pub Visits : {V : Type 0} → (V → List Placed → Type 0) → (List Placed → Type 0) → (Stop → List Symbol → Symbol → Type 0) → V → V → List Placed → Option Stop → Type 0
Visits took refuses place before after ks None = TakesAll took before after ks
Visits took refuses place before after ks (Some stop) = (front : List Placed) → took before front → StopsIn (took after) refuses (place stop) ks front

-- THE PLACE OF A STOP, behind the symbols `taken`, at the symbol k

-- in a directive line: the text is the line
pub record StopsAtDirective (line : List ℕ) (stop : Stop) (taken : List Symbol) (k : Symbol) : Type 0 where
  pub directive : is_directive_line (solid_pieces line) ≡ true
  pub whole : stop.text.now ≡ line
  pub none_taken : taken ≡ []
  pub spells : line_symbols line ≡ k ∷ []

-- in a line of tokens: the text begins with the token
pub record StopsAtToken (line : List ℕ) (stop : Stop) (taken : List Symbol) (k : Symbol) : Type 0 where
  pub tokens : is_directive_line (solid_pieces line) ≡ false
  pub pieces : List Piece
  pub cut : Cut line stop.text.now pieces
  pub taken_are : flat_map piece_symbols pieces ≡ taken
  pub more : List Symbol
  pub spells : token_symbols stop.text.now ≡ k ∷ more

-- in a line that begins at the offset
pub record StopsInLine (line : List ℕ) (offset : ℕ) (stop : Stop) (taken : List Symbol) (k : Symbol) : Type 0 where
  pub at_directive : stop.is_directive ≡ true → StopsAtDirective line stop taken k
  pub at_token : stop.is_directive ≡ false → StopsAtToken line stop taken k
  pub ends_with_line : stop.at + length stop.text.now ≡ offset + length line

-- in a file
pub record StopsInFile (bytes : List ℕ) (stop : Stop) (taken : List Symbol) (k : Symbol) : Type 0 where
  pub before : List ℕ
  pub line : List ℕ
  pub behind : List ℕ
  pub joined : bytes ≡ before ++ (line ++ behind)
  pub one_line : IsOneLine line
  pub ended : IsEndOfLine behind
  pub earlier : List Symbol
  pub opens : Opens before earlier
  pub here : List Symbol
  pub taken_are : taken ≡ earlier ++ here
  pub in_line : StopsInLine line (length before) stop here k
