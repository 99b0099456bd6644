-- What digits and values of this crate are in the definitions' terms.
use Rattle.c_text.specs.Constants as spec
use Rattle.c_constants.specs.declared.numbers.Digits.{Digits}
use Rattle.c_constants.specs.declared.escapes.Value.{Value}

abbrev pub digits_view : Digits → spec.Digits
digits_view d = spec.digits_in d.base d.digits.now

abbrev pub value_view : Value → spec.Escape
value_view v = record { value = v.byte; length = v.more }
