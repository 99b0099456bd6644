use Rattle.std.proofs.Common.{◌≡◌}
use Rattle.clause_search.specs.WatchedNumbers as spec
use Rattle.clause_search.proofs.watched.Watched.new.Given as goal

abbrev pub invariant-loop-number : goal.invariant-loop-number
invariant-loop-number l = l.numbers.items ≡ spec.numbers_to l.number
