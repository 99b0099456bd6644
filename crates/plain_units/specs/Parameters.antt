-- The parameters of a definition, one after the other.
use Rattle.std.proofs.Common.{◌≡◌, ℕ, ◌+◌, ◌<◌, ◌≤◌, List, length, map, get_or, drop, refl, ap}
use Rattle.std.proofs.Math.ListN.{drop_of_length-le}
use Rattle.core_meaning.specs.Entities.{Scope}
use Rattle.core_meaning.specs.Declarations.{with_parameter}
use Rattle.core_meaning.specs.UnitNames.{with_parameters}
use Rattle.plain_parameters.specs.declared.parameters.Parameter.{Parameter}
use Rattle.plain_parameters.specs.PlainParameters.{plain_parameter}
use Rattle.plain_structs.specs.Leading.{front}

pub parameters_next : (scope : Scope) (parameters : List Parameter) (p : Parameter) (n : ℕ) → n < length parameters → p ≡ get_or parameters n p → with_parameters scope n (map plain_parameter (drop n parameters)) ≡ with_parameters (with_parameter scope n (plain_parameter p).name (plain_parameter p).ty) (n + 1) (map plain_parameter (drop (n + 1) parameters))
parameters_next scope parameters p n inside is =
    ap (λ l. with_parameters scope n (map plain_parameter l)) (front parameters p n inside is)

pub parameters_end : (scope : Scope) (parameters : List Parameter) (n : ℕ) → length parameters ≤ n → with_parameters scope n (map plain_parameter (drop n parameters)) ≡ scope
parameters_end scope parameters n over = rw (drop_of_length-le parameters {i = n} over) refl
