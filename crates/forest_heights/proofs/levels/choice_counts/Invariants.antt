use Rattle.std.proofs.Common.{ℕ, Bool}
use Rattle.forest_heights.specs.Levels.{some_counts}
use Rattle.forest_heights.proofs.Choosing.{SoFar}
use Rattle.forest_heights.proofs.levels.choice_counts.Given as goal

abbrev pub invariant-loop-when : goal.invariant-loop-when
invariant-loop-when l = (on : ℕ → Bool) → SoFar on (some_counts l.only_stars) l.when-items l.when-index l.found l.left
