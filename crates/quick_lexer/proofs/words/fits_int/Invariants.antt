use Rattle.std.proofs.Common.{◌≡◌, ◌≤◌, drop}
use Rattle.quick_form.specs.Words.{value_from, value_of}
use Rattle.quick_lexer.proofs.words.fits_int.Given as goal

abbrev pub invariant-loop-digit : goal.invariant-loop-digit
invariant-loop-digit l =
    (l.value ≤ 2147483647) × (value_from l.value (drop l.digit-index l.digits) ≡ value_of l.digits)
