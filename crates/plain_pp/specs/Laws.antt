-- LAWS, each the contract of a function of this crate.
use Rattle.std.specs.Prelude.{◌≡◌, ℕ}
use Rattle.c_text.specs.Preprocessing.{Sources, Syntax, IsSyntaxOf, Outcome, IsPreprocessed}

-- the expressions and the files of each project can be read
abbrev pub ProjectsHaveSyntax : Type 0
ProjectsHaveSyntax = (s : Sources) → (x : Syntax) × IsSyntaxOf s x

-- a unit has one outcome at most
abbrev pub OutcomesAreOne : Type 0
OutcomesAreOne = (s : Sources) (number : ℕ) (a b : Outcome) → IsPreprocessed s number a → IsPreprocessed s number b → a ≡ b
