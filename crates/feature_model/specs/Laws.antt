-- LAWS, each the contract of a function of this crate.
use Rattle.std.specs.Prelude.{◌≡◌, ℕ, List}
use Rattle.feature_model.specs.Tokens.{Token, IsWriting}
use Rattle.feature_model.specs.Trees.{Tree}
use Rattle.feature_model.specs.Constraints.{IsConstraint}

-- a text is written with one list of tokens at most
abbrev pub TokensAreOne : Type 0
TokensAreOne = (text : List ℕ) (a b : List Token) → IsWriting text a → IsWriting text b → a ≡ b

-- a text has one tree at most
abbrev pub TreeIsOne : Type 0
TreeIsOne = (text : List ℕ) (a b : Tree) → IsConstraint text a → IsConstraint text b → a ≡ b
