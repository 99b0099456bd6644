use Rattle.std.proofs.Common.{rules}
use Rattle.std.proofs.lemmas.Nat.{or_lt}
use Rattle.verdict_query.proofs.guesses.suggested.Goals as goal

pub invariant_of-c : goal.invariant_of-c
invariant_of-c c = or_lt 128 c.needed.result c.needed-2.result (search rules) (search rules)
