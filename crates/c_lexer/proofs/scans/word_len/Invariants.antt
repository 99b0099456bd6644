use Rattle.std.proofs.Common.{◌≡◌, ◌+◌, drop}
use Rattle.std.specs.List.{prefix_len}
use Rattle.c_names.specs.Names.{is_word_byte}
use Rattle.c_lexer.proofs.scans.word_len.Given as goal

abbrev pub invariant-loop-i : goal.invariant-loop-i
invariant-loop-i l = l.i + prefix_len is_word_byte (drop l.i l.text) ≡ prefix_len is_word_byte l.text
