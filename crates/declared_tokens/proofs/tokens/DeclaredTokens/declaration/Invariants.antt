use Rattle.std.proofs.Common.{◌≡◌, drop}
use Rattle.cond_formula.specs.Features.{has}
use Rattle.conditional.specs.Entries.{first}
use Rattle.declared_tokens.specs.Declarations.{numbers_at, declared_at}
use Rattle.declared_tokens.proofs.tokens.DeclaredTokens.declaration.Given as goal

abbrev pub invariant-loop-entry : goal.invariant-loop-entry
invariant-loop-entry l = first (numbers_at (has l.c) (drop l.entry-index l.entry-items)) ≡ first (declared_at (has l.c) l.self l.token)
