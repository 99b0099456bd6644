-- LAWS, each the contract of a function of this crate.
use Rattle.std.specs.Prelude.{◌≡◌, ◌↔◌, ℤ, List, map, Option, Some}
use Rattle.c_text.specs.Token.{PlainToken}
use Rattle.c_text.specs.Expressions.{HasValue, word_of}
use Rattle.pp_lines.specs.ExpressionReading.{at_start}
use Rattle.pp_lines.specs.ExpressionView.{read_on}
use Rattle.pp_lines.specs.Values.{IsValueOf}

-- tokens have one value at most, so that they are one expression's however they group
abbrev pub ValuesAreOne : Type 0
ValuesAreOne = (tokens : List PlainToken) (a b : ℤ) → HasValue tokens a → HasValue tokens b → a ≡ b

-- whether tokens have a value, and which one, is settled for all of them
abbrev pub ValuesAreDecided : Type 0
ValuesAreDecided = (tokens : List PlainToken) → (v : Option ℤ) × ((z : ℤ) → (v ≡ Some z) ↔ HasValue tokens z)

-- what the reader makes of tokens is what they are worth
abbrev pub ValuesAreRead : Type 0
ValuesAreRead = (tokens : List PlainToken) → IsValueOf tokens (read_on (Some at_start) (map word_of tokens))
