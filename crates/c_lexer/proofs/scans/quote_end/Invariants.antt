use Rattle.std.proofs.Common.{◌≡◌, drop, false}
use Rattle.c_lexer.specs.Scans.{quote_from}
use Rattle.c_lexer.proofs.scans.quote_end.Given as goal

abbrev pub invariant-loop-i : goal.invariant-loop-i
invariant-loop-i l = quote_from l.quote l.escaped l.i (drop l.i l.text) ≡ quote_from l.quote false 0 l.text
