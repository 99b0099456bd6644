use Rattle.std.proofs.Common.{◌≡◌, ℕ, Bool, ◌||◌, drop}
use Rattle.cond_formula.specs.Conditions.{condition_of, value}
use Rattle.declared_tokens.specs.Declarations.{numbers_at, is_one_missing}
use Rattle.declared_tokens.proofs.differences.where_one_missing.Given as goal

abbrev pub invariant-loop-one : goal.invariant-loop-one
invariant-loop-one l =
    (on : ℕ → Bool) → (value on (condition_of l.missing) || is_one_missing (numbers_at on (drop l.one-index l.some)) (numbers_at on l.all)) ≡ is_one_missing (numbers_at on l.some) (numbers_at on l.all)
