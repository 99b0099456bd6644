use Rattle.std.proofs.Common.{◌≡◌, ◌+◌, drop}
use Rattle.c_text.specs.Constants.{run_length, is_digit_in}
use Rattle.c_constants.proofs.digits.digits_len.Given as goal

abbrev pub invariant-loop-i : goal.invariant-loop-i
invariant-loop-i l = l.i + run_length (is_digit_in l.base) (drop l.i l.bytes) ≡ run_length (is_digit_in l.base) l.bytes
