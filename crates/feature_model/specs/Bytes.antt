-- A text read byte by byte: how each byte moves a reader of tokens.
use Rattle.std.specs.Prelude.{ℕ, List, [], ◌∷◌, ◌++◌, ◌==◌, Option, Some, None, if◌then◌else◌, option_and_then}
use Rattle.c_names.specs.Bytes.{ampersand, bar, blank, close_parenthesis, exclamation, greater_sign, less_sign, minus_sign, open_parenthesis, tab}
use Rattle.c_names.specs.Names.{is_nondigit, is_word_byte}
use Rattle.feature_model.specs.Tokens.{Token, Name, Mark}
use Rattle.feature_model.specs.declared.signs.Sign.TheVariants.{Not, And, Or, Implies, Equals, Opens, Closes}
use Rattle.feature_model.specs.declared.signs.Front.{Front}
use Rattle.feature_model.specs.declared.signs.Front.TheVariants.{Ampersand, Bar, Dash, Less, LessDash}
use Rattle.feature_model.specs.declared.signs.Start.{Start}
use Rattle.feature_model.specs.declared.signs.Start.TheVariants.{Blank, Letter, Whole, Part, Nothing}

-- what a byte begins between tokens
abbrev pub start_of : ℕ → Start
start_of b =
    if b == blank then Blank else if b == tab then Blank else if b == exclamation then Whole Not else if b == open_parenthesis then Whole Opens
    else if b == close_parenthesis then Whole Closes else if b == ampersand then Part Ampersand else if b == bar then Part Bar
    else if b == minus_sign then Part Dash else if b == less_sign then Part Less else if is_nondigit b then Letter else Nothing

-- what a begun sign is with a byte more
abbrev pub next_of : Front → ℕ → Start
next_of Ampersand b = if b == ampersand then Whole And else Nothing
next_of Bar b = if b == bar then Whole Or else Nothing
next_of Dash b = if b == greater_sign then Whole Implies else Nothing
next_of Less b = if b == minus_sign then Part LessDash else Nothing
next_of LessDash b = if b == greater_sign then Whole Equals else Nothing

-- the token that the last bytes begin
pub data Begun : Type 0 where
  in_blank : Begun
  in_word : List ℕ → Begun
  in_sign : Front → Begun

-- the tokens so far, and what is begun
pub record Lexing : Type 0 where
  pub tokens : List Token
  pub begun : Begun

abbrev pub lexing : List Token → Begun → Lexing
lexing ts s = record { tokens = ts; begun = s }

abbrev pub started : List Token → ℕ → Start → Option Lexing
started ts b Blank = Some (lexing ts in_blank)
started ts b Letter = Some (lexing ts (in_word (b ∷ [])))
started ts b (Whole sign) = Some (lexing (ts ++ Mark sign ∷ []) in_blank)
started ts b (Part part) = Some (lexing ts (in_sign part))
started ts b Nothing = None

-- one byte more
abbrev pub moved : List Token → Begun → ℕ → Option Lexing
moved ts in_blank b = started ts b (start_of b)
moved ts (in_word word) b =
    if is_word_byte b then Some (lexing ts (in_word (word ++ b ∷ []))) else started (ts ++ Name word ∷ []) b (start_of b)
moved ts (in_sign part) b = started ts b (next_of part b)

abbrev pub ended : List Token → Begun → Option (List Token)
ended ts in_blank = Some ts
ended ts (in_word word) = Some (ts ++ Name word ∷ [])
ended ts (in_sign part) = None

-- the tokens so far and those of the rest
abbrev pub lexed : Lexing → List ℕ → Option (List Token)
lexed s [] = ended s.tokens s.begun
lexed s (b ∷ bs) = option_and_then (λ t. lexed t bs) (moved s.tokens s.begun b)

-- the tokens of a text: a blank ends a token, and a name has all letters and digits that follow one another
abbrev pub tokens_of : List ℕ → Option (List Token)
tokens_of text = lexed (lexing [] in_blank) text
