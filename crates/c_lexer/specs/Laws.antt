-- LAWS, each the contract of a function of this crate.
use Rattle.std.specs.Prelude.{◌≡◌, ℕ, List}
use Rattle.c_text.specs.Lines.{PlainLine, AreItsLines}

-- a text has one list of lines at most
abbrev pub LinesAreOne : Type 0
LinesAreOne = (file : ℕ) (text : List ℕ) (a b : List PlainLine) → AreItsLines file text a → AreItsLines file text b → a ≡ b

-- each text has lines
abbrev pub TextsHaveLines : Type 0
TextsHaveLines = (file : ℕ) (text : List ℕ) → (lines : List PlainLine) × AreItsLines file text lines
