use Rattle.std.proofs.Common.{◌≡◌, ◌++◌, drop}
use Rattle.c_tree.specs.Places.{goes_on}
use Rattle.grammar_moves.proofs.wordings.begins_with.Given as goal

abbrev pub invariant-loop-place : goal.invariant-loop-place
invariant-loop-place l = goes_on l.words (l.first ++ l.second) ≡ goes_on (drop l.place l.words) (drop l.place (l.first ++ l.second))
