use Rattle.std.proofs.Common.{◌≡◌, drop}
use Rattle.c_text.specs.Constants.{digits_from, digits_value}
use Rattle.c_constants.proofs.digits.digits_value.Given as goal

abbrev pub invariant-loop-digit : goal.invariant-loop-digit
invariant-loop-digit l = digits_from l.base l.value (drop l.digit-index l.digits) ≡ digits_value l.base l.digits
