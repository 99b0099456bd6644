use Rattle.std.proofs.Common.{◌≡◌, ℕ, Bool}
use Rattle.cond_formula.specs.Conditions.{condition_of, value}
use Rattle.declared_tokens.specs.Declarations.{declared_at, is_one_declared_otherwise}
use Rattle.declared_tokens.proofs.tokens.DeclaredTokens.where_otherwise.Given as goal

abbrev pub invariant-loop-token : goal.invariant-loop-token
invariant-loop-token l = (on : ℕ → Bool) → value on (condition_of l.differs) ≡ is_one_declared_otherwise (declared_at on l.self) (declared_at on l.other) l.token
