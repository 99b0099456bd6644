-- What an expression of an `#if` comes to.
use Rattle.std.specs.Prelude.{ℤ, Option, Some, None}
use Rattle.pp_lines.specs.declared.expressions.Value.{Value}
use Rattle.pp_lines.specs.declared.expressions.Value.TheVariants.{Number, Refused}

-- the number that an expression comes to, if it comes to one
abbrev pub number_in : Value → Option ℤ
number_in (Number n) = Some n
number_in Refused = None
