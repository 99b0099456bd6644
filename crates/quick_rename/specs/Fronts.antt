-- Unfinished words: what a word that begins so may still become, behind what a parser has read.
use Rattle.std.specs.Prelude.{◌≡◌, ◌⊎◌, ℕ, ◌+◌, ◌-◌, ◌<◌, ◌≤◌, Bool, true, false, ◌&&◌, ◌||◌, nat_eq, nat_lt, List, [], ◌∷◌, length, take, codes, is_some}
use Rattle.std.specs.List.{list_any, starts_with}
use Rattle.std.specs.Str.{bytes_eq}
use Rattle.quick_form.specs.Words.{is_identifier, is_number}
use Rattle.quick_form.specs.Symbols.{Symbol, Int, Void, While, Return, Putchar, Main, Name, Number, Else, Endif, Piece, piece_bytes, is_blank_piece, solid_pieces}
use Rattle.quick_lexer.specs.Lines.{BeginsWith}
use Rattle.quick_lexer.specs.View.{token_symbols}
use Rattle.quick_parser.specs.Steps.{State, step}

-- whether a symbol may stand next
abbrev pub can : State → Symbol → Bool
can s k = is_some (step s k)

-- whether the front begins the word of a symbol that may stand next, or is all of it
abbrev pub begins_word : State → List ℕ → Symbol → List ℕ → Bool
begins_word s word k front = starts_with nat_eq word front && can s k

abbrev pub is_whole_word : State → List ℕ → Symbol → List ℕ → Bool
is_whole_word s word k front = bytes_eq front word && can s k

-- whether it begins a token that may stand next
abbrev pub begins_token : State → List ℕ → Bool
begins_token s front =
    begins_word s (codes "int") Int front || begins_word s (codes "void") Void front
    || begins_word s (codes "while") While front || begins_word s (codes "return") Return front
    || begins_word s (codes "putchar") Putchar front || begins_word s (codes "main") Main front
    || is_identifier front && can s (Name (codes "a")) || is_number front && can s (Number (codes "0"))

-- where a directive may stand next: whether it begins the name of one, or is all of `else` or `endif`
abbrev pub begins_directive : State → List ℕ → Bool
begins_directive s front =
    starts_with nat_eq (codes "ifdef") front || begins_word s (codes "else") Else front
    || begins_word s (codes "endif") Endif front

abbrev pub is_bare_directive : State → List ℕ → Bool
is_bare_directive s front = is_whole_word s (codes "else") Else front || is_whole_word s (codes "endif") Endif front

-- whether it begins one of the names
abbrev pub begins_name : List (List ℕ) → List ℕ → Bool
begins_name names front = list_any (λ n. starts_with nat_eq n front) names

-- where a name may be tested: whether it begins one that may
abbrev pub begins_test : State → List ℕ → Bool
begins_test s front = is_identifier front && (nat_lt (length s.tested_names) 128 || begins_name s.tested_names front)

-- how many bytes of a word can stand
pub record IsFrontLength (begins : List ℕ → Bool) (word : List ℕ) (n : ℕ) : Type 0 where
  pub within : n ≤ length word
  pub fits : 0 < n → begins (take n word) ≡ true
  pub ends : n < length word → begins (take (n + 1) word) ≡ false

-- the first token of a text may not stand next
abbrev pub RefusesFirst : State → List ℕ → Type 0
RefusesFirst s text = (k : Symbol) (ks : List Symbol) → token_symbols text ≡ k ∷ ks → can s k ≡ false

-- the text ends the line: its first piece, blanks and tabs aside, begins there in the line, or the line ends there
pub record NextPiece (line text : List ℕ) (n : ℕ) : Type 0 where
  pub piece : Piece
  pub rest : List ℕ
  pub begins : BeginsWith text piece rest
  pub solid : is_blank_piece piece ≡ false
  pub start_is : n ≡ length line - length rest - length (piece_bytes piece)

abbrev pub IsNextPiece : List ℕ → List ℕ → ℕ → Type 0
IsNextPiece line text n = NextPiece line text n ⊎ (solid_pieces text ≡ []) × (n ≡ length line)
