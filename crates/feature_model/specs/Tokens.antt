-- A constraint's text as writing: tokens, with blanks between them as one likes.
use Rattle.std.specs.Prelude.{◌≡◌, ℕ, List, [], ◌∷◌, ◌++◌, IsTrue, codes, ⊤}
use Rattle.c_names.specs.Bytes.{blank, tab}
use Rattle.c_names.specs.Names.{is_identifier}
use Rattle.feature_model.specs.declared.signs.Sign.{Sign}
use Rattle.feature_model.specs.declared.signs.Sign.TheVariants.{Not, And, Or, Implies, Equals, Opens, Closes}

-- a feature's name, or a sign
pub data Token : Type 0 where
  Name : List ℕ → Token
  Mark : Sign → Token

abbrev pub sign_text : Sign → List ℕ
sign_text Not = codes "!"
sign_text And = codes "&&"
sign_text Or = codes "||"
sign_text Implies = codes "->"
sign_text Equals = codes "<->"
sign_text Opens = codes "("
sign_text Closes = codes ")"

abbrev pub token_text : Token → List ℕ
token_text (Name word) = word
token_text (Mark sign) = sign_text sign

-- A piece of a text. A newline is none.
pub data Piece : Type 0 where
  Space : Piece
  Tab : Piece
  Spelled : Token → Piece

abbrev pub piece_text : Piece → List ℕ
piece_text Space = blank ∷ []
piece_text Tab = tab ∷ []
piece_text (Spelled token) = token_text token

abbrev pub pieces_text : List Piece → List ℕ
pieces_text [] = []
pieces_text (piece ∷ rest) = piece_text piece ++ pieces_text rest

-- the tokens among pieces
abbrev pub pieces_tokens : List Piece → List Token
pieces_tokens [] = []
pieces_tokens (Spelled token ∷ rest) = token ∷ pieces_tokens rest
pieces_tokens (Space ∷ rest) = pieces_tokens rest
pieces_tokens (Tab ∷ rest) = pieces_tokens rest

abbrev pub BeginsWithNoName : List Piece → Type 0
BeginsWithNoName (Spelled (Name word) ∷ rest) = ⊥
BeginsWithNoName pieces = ⊤

-- Each name is an identifier, and no name stands right behind another.
abbrev pub WellSpaced : List Piece → Type 0
WellSpaced [] = ⊤
WellSpaced (Spelled (Name word) ∷ rest) = IsTrue (is_identifier word) × BeginsWithNoName rest × WellSpaced rest
WellSpaced (Spelled (Mark sign) ∷ rest) = WellSpaced rest
WellSpaced (Space ∷ rest) = WellSpaced rest
WellSpaced (Tab ∷ rest) = WellSpaced rest

-- the text is written with these tokens
pub record IsWriting (text : List ℕ) (tokens : List Token) : Type 0 where
  pub pieces : List Piece
  pub written : text ≡ pieces_text pieces
  pub told : tokens ≡ pieces_tokens pieces
  pub spaced : WellSpaced pieces
