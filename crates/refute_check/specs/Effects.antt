-- What following a hint does to the values, by what the hint's clause is.
use Rattle.std.specs.Prelude.{◌≡◌, Bool, List, Option}
use Rattle.refute_check.specs.declared.hints.Effect.{Effect}
use Rattle.refute_check.specs.declared.hints.Effect.TheVariants.{Refutes, Extends, Fails}
use Rattle.refute_check.specs.Steps.{Judgement, false_clause, unit, neither, taken_true}

abbrev pub HasEffect : Judgement → Effect → List (Option Bool) → List (Option Bool) → Type 0
HasEffect false_clause effect before after = effect ≡ Refutes
HasEffect (unit literal) effect before after = (effect ≡ Extends) × (after ≡ taken_true before literal)
HasEffect neither effect before after = effect ≡ Fails
