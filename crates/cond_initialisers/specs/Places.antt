-- The numbers of types.
use Rattle.std.specs.Prelude.{◌≡◌, ℕ, Bool, List, [], map, Some, slice_get, if◌then◌else◌}
use Rattle.cond_formula.specs.Conditions.{condition_of, value}
use Rattle.conditional.specs.Entries.{seen, listed}
use Rattle.c_types.specs.Types.{PlainType}
use Rattle.type_tables.specs.declared.entries.CondStruct.{CondStruct}
use Rattle.type_tables.specs.Forms.{member_form}
use Rattle.type_tables.specs.Follows.{types_of}

-- a type that has a number among the first has it among the second
abbrev pub Extends : List PlainType → List PlainType → Type 0
Extends types more_types = (n : ℕ) (ty : PlainType) → slice_get types n ≡ Some ty → slice_get more_types n ≡ Some ty

-- these are the numbers of the parts' types
abbrev pub AreNumbered : List PlainType → List ℕ → List PlainType → Type 0
AreNumbered types ns parts = map (λ n. slice_get types n) ns ≡ map Some parts

abbrev pub members_of : (ℕ → Bool) → CondStruct → List PlainType
members_of on s = if value on (condition_of s.complete) then types_of (seen on (listed member_form s.members)) else []
