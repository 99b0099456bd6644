use Rattle.std.proofs.Common.{◌≡◌, ℕ, Bool, ◌||◌, drop}
use Rattle.cond_formula.specs.Conditions.{condition_of, value}
use Rattle.cond_pairings.specs.Pairs.{pairs_seen}
use Rattle.class_occurrences.specs.Occurring.{some_passes}
use Rattle.class_occurrences.proofs.occurrences.where_passed.Given as goal

abbrev pub invariant-loop-pair : goal.invariant-loop-pair
invariant-loop-pair g l =
    (on : ℕ → Bool) → (value on (condition_of l.passed) || some_passes (g.T.OccurrenceTest.passes l.test) l.unit.tokens.now (pairs_seen on (drop l.pair-index l.unit.pairs.now)))
    ≡ some_passes (g.T.OccurrenceTest.passes l.test) l.unit.tokens.now (pairs_seen on l.unit.pairs.now)
