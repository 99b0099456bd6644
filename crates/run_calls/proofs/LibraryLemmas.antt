-- The functions of the built-in headers, by their arguments.
use Rattle.std.proofs.Common.{◌≡◌, ℤ, List, [], ◌∷◌, refl, Some, None}
use Rattle.core_meaning.specs.declared.program.BuiltIn.TheVariants.{Putchar, Puts}
use Rattle.core_meaning.specs.Program.{PlainProgram}
use Rattle.core_meaning.specs.Values.{Pointer, number, pointer, Value, scalar}
use Rattle.core_meaning.specs.Outcomes.{State, Fails}
use Rattle.core_meaning.specs.Meaning.{called_built_in}
use Rattle.run_calls.specs.Library.{number_in, pointer_in}

pub only_number : (vs : List Value) (z : ℤ) → number_in vs ≡ Some z → vs ≡ scalar (number z) ∷ []
only_number (scalar (number y) ∷ []) z same = cc
only_number other z same = cc

pub only_pointer : (vs : List Value) (q : Pointer) → pointer_in vs ≡ Some q → vs ≡ scalar (pointer q) ∷ []
only_pointer (scalar (pointer r) ∷ []) q same = cc
only_pointer other q same = cc

pub putchar_fails : (p : PlainProgram) (vs : List Value) (s : State) → number_in vs ≡ None → called_built_in p Putchar vs s ≡ Fails []
putchar_fails p (scalar (number z) ∷ []) s same = cc
putchar_fails p other s same = refl

pub puts_fails : (p : PlainProgram) (vs : List Value) (s : State) → pointer_in vs ≡ None → called_built_in p Puts vs s ≡ Fails []
puts_fails p (scalar (pointer q) ∷ []) s same = cc
puts_fails p other s same = refl
