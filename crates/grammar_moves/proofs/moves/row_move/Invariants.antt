use Rattle.grammar_moves.proofs.RowLemmas.{Skipped}
use Rattle.grammar_moves.proofs.moves.row_move.Given as goal

abbrev pub invariant-loop-place : goal.invariant-loop-place
invariant-loop-place l = Skipped l.row l.slots l.read l.token l.skipped l.place
