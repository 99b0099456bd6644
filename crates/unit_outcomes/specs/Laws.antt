-- What becomes of units; each is the contract of a function of this crate.
use Rattle.std.specs.Prelude.{◌≡◌, ℕ, ◌<◌, ◌≤◌, List, length, Some, All}
use Rattle.c_text.specs.Token.{PlainToken}
use Rattle.c_text.specs.Pieces.{piece_of, token}
use Rattle.c_text.specs.Preprocessing.{Source, Sources, Syntax, IsSyntaxOf, Outcome, gives, IsPreprocessed}
use Rattle.active_tokens.specs.Active.{AreMisplaced, reads_of_unit}

-- the unit with this number has a file, and so has each header
pub record HasFiles (s : Sources) (number : ℕ) : Type 0 where
  pub unit : number < length s.files
  pub headers : length s.headers ≤ length s.files

-- such a unit gives tokens or is refused
abbrev pub UnitsHaveOutcomes : Type 0
UnitsHaveOutcomes = (s : Sources) (number : ℕ) → HasFiles s number → (outcome : Outcome) × IsPreprocessed s number outcome

-- However a project's files are read, such a unit reads the same.
abbrev pub ReadsAreOne : Type 0
ReadsAreOne =
    (s : Sources) (number : ℕ) → HasFiles s number → (x y : Syntax) (first : IsSyntaxOf s x) (second : IsSyntaxOf s y) (misplaced others : Source → List PlainToken)
    → AreMisplaced first misplaced → AreMisplaced second others → reads_of_unit s x misplaced number ≡ reads_of_unit s y others number

-- the token's bytes are one piece of its kind
abbrev pub IsSpelt : PlainToken → Type 0
IsSpelt t = piece_of t.text ≡ Some (token t.kind)

-- the tokens that it gives are spelt as their kinds say
abbrev pub TokensAreSpelt : Type 0
TokensAreSpelt =
    (s : Sources) (number : ℕ) → HasFiles s number → (tokens : List PlainToken) → IsPreprocessed s number (gives tokens) → All IsSpelt tokens
