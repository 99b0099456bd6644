-- The arguments of the functions of the built-in headers, and statuses.
use Rattle.std.specs.Prelude.{ℤ, List, [], ◌∷◌, Option, Some, None}
use Rattle.c_types.specs.Types.{int}
use Rattle.c_types.specs.Integers.{converted}
use Rattle.core_meaning.specs.Values.{Pointer, number, pointer, Value, scalar}
use Rattle.interp_actions.specs.declared.actions.Flow.{Flow}
use Rattle.interp_actions.specs.declared.actions.Flow.TheVariants as flow

-- the only one, if it is a number
abbrev pub number_in : List Value → Option ℤ
number_in (scalar (number z) ∷ []) = Some z
number_in other = None

-- the only one, if it is a pointer
abbrev pub pointer_in : List Value → Option Pointer
pointer_in (scalar (pointer q) ∷ []) = Some q
pointer_in other = None

-- how the program ends where `main` returns a value
abbrev pub status_flow : Value → Flow
status_flow (scalar (number z)) = flow.Exits (converted int z)
status_flow other = flow.Fails
