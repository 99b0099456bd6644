use Rattle.std.proofs.Common.{◌≡◌, drop}
use Rattle.c_lexer.specs.Scans.{number_from}
use Rattle.c_lexer.proofs.scans.number_len.Given as goal

abbrev pub invariant-loop-i : goal.invariant-loop-i
invariant-loop-i l = number_from l.last l.i (drop l.i l.text) ≡ number_from l.fn.first 0 l.text
