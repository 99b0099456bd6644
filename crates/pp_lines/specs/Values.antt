-- What the expression of an `#if` or `#elif` line is worth.
use Rattle.std.specs.Prelude.{◌≡◌, ◌↔◌, ℤ, List}
use Rattle.c_text.specs.Token.{PlainToken}
use Rattle.c_text.specs.Expressions.{HasValue}
use Rattle.pp_lines.specs.declared.expressions.Value.{Value}
use Rattle.pp_lines.specs.declared.expressions.Value.TheVariants.{Number, Refused}

-- the value that the tokens have, or a refusal where they have none
pub record IsValueOf (tokens : List PlainToken) (v : Value) : Type 0 where
  pub number : (z : ℤ) → (v ≡ Number z) ↔ HasValue tokens z
  pub refused : (v ≡ Refused) ↔ ((z : ℤ) → HasValue tokens z → ⊥)
