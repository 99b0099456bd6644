use Rattle.std.proofs.Common.{◌≡◌, drop, false}
use Rattle.c_lexer.specs.Scans.{comment_from}
use Rattle.c_lexer.proofs.scans.comment_end.Given as goal

abbrev pub invariant-loop-i : goal.invariant-loop-i
invariant-loop-i l = comment_from l.star l.i (drop l.i l.text) ≡ comment_from false 0 l.text
