use Rattle.std.proofs.Common.{◌-◌, ◌≤◌, length}
use Rattle.c_lexer.specs.Reader.{reading_of}
use Rattle.c_lexer.proofs.LexLemmas.{IsReading}
use Rattle.c_lexer.proofs.lines.lex.Given as goal

abbrev pub invariant-loop-piece : goal.invariant-loop-piece
invariant-loop-piece l = record {
  within : l.at ≤ length l.bytes;
  reading : IsReading l.file l.text l.at (reading_of l.reader);
}

abbrev pub decreases-loop-piece : goal.decreases-loop-piece
decreases-loop-piece l = length l.bytes - l.at
