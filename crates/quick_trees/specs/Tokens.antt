-- The tokens of present items, behind the line `int putchar(int);`.
use Rattle.std.specs.Prelude.{ℕ, zero, suc, Bool, List, [], ◌∷◌, codes}
use Rattle.c_text.specs.declared.token.TokenKind.{TokenKind}
use Rattle.c_text.specs.declared.token.TokenKind.TheVariants as kind
use Rattle.c_text.specs.Token.{PlainOrigin, PlainToken}
use Rattle.quick_form.specs.Symbols.{Symbol, Int, Void, While, Return, Putchar, Main, Name, Number, Mark}
use Rattle.quick_form.specs.Form.{write_sum}
use Rattle.quick_form.specs.Program.{Code, done, assign, put, give, while_}
use Rattle.quick_core.specs.Present.{Item, tentative, valued, main_of}

-- what a token has besides its kind and its bytes
pub record Seat : Type 0 where
  pub joined : Bool
  pub origin : PlainOrigin

-- the seats of tokens, by their numbers
abbrev pub Seats : Type 0
Seats = ℕ → Seat

-- those behind the first n
abbrev pub skip : ℕ → Seats → Seats
skip zero seats = seats
skip (suc n) seats = skip n (λ k. seats (suc k))

abbrev pub symbol_kind : Symbol → TokenKind
symbol_kind Putchar = kind.Name
symbol_kind Main = kind.Name
symbol_kind (Name x) = kind.Name
symbol_kind (Number d) = kind.Number
symbol_kind (Mark b) = kind.Punctuator
symbol_kind word = kind.Keyword

-- directive lines have no bytes
abbrev pub symbol_text : Symbol → List ℕ
symbol_text Int = codes "int"
symbol_text Void = codes "void"
symbol_text While = codes "while"
symbol_text Return = codes "return"
symbol_text Putchar = codes "putchar"
symbol_text Main = codes "main"
symbol_text (Name x) = x
symbol_text (Number d) = d
symbol_text (Mark b) = b ∷ []
symbol_text line = []

abbrev pub token_of : Symbol → Seat → PlainToken
token_of k seat = record { kind = symbol_kind k; text = symbol_text k; joined = seat.joined; origin = seat.origin }

abbrev pub tokens_of : List Symbol → Seats → List PlainToken
tokens_of [] seats = []
tokens_of (k ∷ ks) seats = token_of k (seats 0) ∷ tokens_of ks (skip 1 seats)

-- What code and items write, followed by the symbols k. The marks are `(` 40, `)` 41, `;` 59, `=` 61, `{` 123, `}` 125.
abbrev pub write_code : Code → List Symbol → List Symbol
write_code done k = k
write_code (assign x s rest) k = Name x ∷ Mark 61 ∷ write_sum s (Mark 59 ∷ write_code rest k)
write_code (put s rest) k = Putchar ∷ Mark 40 ∷ write_sum s (Mark 41 ∷ Mark 59 ∷ write_code rest k)
write_code (give s rest) k = Return ∷ write_sum s (Mark 59 ∷ write_code rest k)
write_code (while_ s body rest) k =
    While ∷ Mark 40 ∷ write_sum s (Mark 41 ∷ Mark 123 ∷ write_code body (Mark 125 ∷ write_code rest k))

abbrev pub write_present : List Item → List Symbol
write_present [] = []
write_present (tentative x ∷ rest) = Int ∷ Name x ∷ Mark 59 ∷ write_present rest
write_present (valued x d ∷ rest) = Int ∷ Name x ∷ Mark 61 ∷ Number d ∷ Mark 59 ∷ write_present rest
write_present (main_of body ∷ rest) =
    Int ∷ Main ∷ Mark 40 ∷ Void ∷ Mark 41 ∷ Mark 123 ∷ write_code body (Mark 125 ∷ write_present rest)

-- `int putchar(int);`
abbrev pub write_unit : List Item → List Symbol
write_unit items = Int ∷ Putchar ∷ Mark 40 ∷ Int ∷ Mark 41 ∷ Mark 59 ∷ write_present items
