use Rattle.std.proofs.Common.{ℕ, Bool, drop}
use Rattle.choice_trees.specs.ChoiceTrees.{plain_choices}
use Rattle.forest_heights.proofs.Telling.{CountedSoFar}
use Rattle.forest_heights.proofs.levels.part_count.Given as goal

abbrev pub invariant-loop-part : goal.invariant-loop-part
invariant-loop-part l = (on : ℕ → Bool) → CountedSoFar on l.only_stars (plain_choices l.parts) (plain_choices (drop l.part-index l.parts)) l.levels.items
