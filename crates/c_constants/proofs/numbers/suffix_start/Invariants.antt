use Rattle.std.proofs.Common.{◌≡◌, ◌+◌, drop}
use Rattle.c_text.specs.Constants.{suffix_start}
use Rattle.c_constants.proofs.numbers.suffix_start.Given as goal

abbrev pub invariant-loop-i : goal.invariant-loop-i
invariant-loop-i l = l.i + suffix_start (drop l.i l.text) ≡ suffix_start l.text
