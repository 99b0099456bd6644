-- The pieces of a text (ISO/IEC 9899:2011, 5.1.1.2, phase 3, and 6.4): white space, comments and preprocessing tokens, and what
-- can't be a token.
use Rattle.std.specs.Prelude.{ℕ, ◌==◌, Bool, false, not, ◌&&◌, ◌||◌, nat_eq, List, [], ◌∷◌, length, drop, codes, if◌then◌else◌, Option, Some, None}
use Rattle.std.specs.List.{list_any, list_all, starts_with}
use Rattle.std.specs.Str.{bytes_eq}
use Rattle.c_names.specs.Bytes.{blank, carriage_return, double_quote, form_feed, newline, single_quote, tab, vertical_tab}
use Rattle.c_names.specs.Names.{is_identifier, is_keyword}
use Rattle.c_text.specs.declared.token.BadKind.TheVariants.{BadByte, OpenComment, OpenQuote, OutOfProfile}
use Rattle.c_text.specs.declared.token.TokenKind.{TokenKind}
use Rattle.c_text.specs.declared.token.TokenKind.TheVariants.{Name, Keyword, Number, Character, Text, Punctuator, Bad}
use Rattle.c_text.specs.Constants.{is_number, is_integer, is_quoted, is_open_quoted, is_character, is_text}

pub data PieceKind : Type 0 where
  -- white space within a line, or a comment
  space : PieceKind
  -- the newline that ends a line
  line_end : PieceKind
  token : TokenKind → PieceKind

-- a blank, a tab, a vertical tab, a form feed or a carriage return
abbrev pub is_blank : List ℕ → Bool
is_blank w = list_any (bytes_eq w) ((blank ∷ []) ∷ (tab ∷ []) ∷ (vertical_tab ∷ []) ∷ (form_feed ∷ []) ∷ (carriage_return ∷ []) ∷ [])

abbrev pub is_newline : List ℕ → Bool
is_newline w = bytes_eq w (newline ∷ [])

-- `//` and the rest of the line
abbrev pub is_line_comment : List ℕ → Bool
is_line_comment w = starts_with nat_eq w (codes "//") && list_all (λ b. not (b == newline)) w

-- whether `*/` stands in it
abbrev pub has_end : List ℕ → Bool
has_end [] = false
has_end (b ∷ rest) = starts_with nat_eq (b ∷ rest) (codes "*/") || has_end rest

-- whether the first `*/` is its end
abbrev pub ends_first : List ℕ → Bool
ends_first [] = false
ends_first (b ∷ rest) = if starts_with nat_eq (b ∷ rest) (codes "*/") then length rest == 1 else ends_first rest

-- `/*` up to the next `*/`
abbrev pub is_block_comment : List ℕ → Bool
is_block_comment w = starts_with nat_eq w (codes "/*") && ends_first (drop 2 w)

-- `/*` with no `*/` behind it
abbrev pub is_open_comment : List ℕ → Bool
is_open_comment w = starts_with nat_eq w (codes "/*") && not (has_end (drop 2 w))

abbrev pub punctuators : List (List ℕ)
punctuators =
    codes "[" ∷ codes "]" ∷ codes "(" ∷ codes ")" ∷ codes "{" ∷ codes "}" ∷ codes "." ∷ codes "->" ∷ codes "++" ∷ codes "--"
    ∷ codes "&" ∷ codes "*" ∷ codes "+" ∷ codes "-" ∷ codes "~" ∷ codes "!" ∷ codes "/" ∷ codes "%" ∷ codes "<<" ∷ codes ">>"
    ∷ codes "<" ∷ codes ">" ∷ codes "<=" ∷ codes ">=" ∷ codes "==" ∷ codes "!=" ∷ codes "^" ∷ codes "|" ∷ codes "&&"
    ∷ codes "||" ∷ codes "?" ∷ codes ":" ∷ codes ";" ∷ codes "=" ∷ codes "*=" ∷ codes "/=" ∷ codes "%=" ∷ codes "+="
    ∷ codes "-=" ∷ codes "<<=" ∷ codes ">>=" ∷ codes "&=" ∷ codes "^=" ∷ codes "|=" ∷ codes "," ∷ codes "#" ∷ codes "##"
    ∷ codes "..." ∷ []

abbrev pub is_punctuator : List ℕ → Bool
is_punctuator w = list_any (bytes_eq w) punctuators

abbrev pub bad_unless : Bool → TokenKind → TokenKind
bad_unless read kind = if read then kind else Bad OutOfProfile

-- What these bytes are as one piece, if they are one. A byte that is nothing else is a bad token.
abbrev pub piece_of : List ℕ → Option PieceKind
piece_of w =
    if is_newline w then Some line_end
    else if is_blank w || is_line_comment w || is_block_comment w then Some space
    else if is_identifier w then Some (token (if is_keyword w then Keyword else Name))
    else if is_number w then Some (token (bad_unless (is_integer w) Number))
    else if is_quoted single_quote w then Some (token (bad_unless (is_character w) Character))
    else if is_quoted double_quote w then Some (token (bad_unless (is_text w) Text))
    else if is_punctuator w then Some (token Punctuator)
    else if is_open_comment w then Some (token (Bad OpenComment))
    else if is_open_quoted single_quote w || is_open_quoted double_quote w then Some (token (Bad OpenQuote))
    else if length w == 1 then Some (token (Bad BadByte))
    else None
