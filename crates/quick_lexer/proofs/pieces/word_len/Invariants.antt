use Rattle.std.proofs.Common.{◌≡◌, ◌+◌, drop}
use Rattle.std.specs.List.{prefix_len}
use Rattle.quick_form.specs.Words.{is_word_byte}
use Rattle.quick_lexer.proofs.pieces.word_len.Given as goal

abbrev pub invariant-loop-i : goal.invariant-loop-i
invariant-loop-i l = l.i + prefix_len is_word_byte (drop l.i l.line) ≡ prefix_len is_word_byte l.line
