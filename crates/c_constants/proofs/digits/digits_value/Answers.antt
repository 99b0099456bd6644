use Rattle.std.proofs.Common.{◌+◌, ◌*◌, ◌≤◌, ◌^◌, drop, get_or, arith}
use Rattle.std.proofs.lemmas.List.{at_drop_more}
use Rattle.c_text.specs.Constants.{digit_value, digits_from, digits_value}
use Rattle.c_constants.proofs.NumberLemmas.{digits_from-ge}
use Rattle.c_constants.proofs.digits.digits_value.Goals as goal

pub returns-in_err-value : goal.returns-in_err-value
returns-in_err-value c =
    let ds = c.args.digits.now in
    let base = c.args.base in
    let i = c.loop-digit.digit-index in
    let n = c.loop-digit.value in
    let next = base * n + digit_value (get_or ds i 0) in
    let step = at_drop_more (digits_from base n) ds i 0 (omega arith) in
    let ge = digits_from-ge base next (drop (i + 1) ds) c.requires in
    let above : 2 ^ 64 ≤ digits_value base ds = omega (arith, step, ge, c.loop-digit.invariant, c.in_err-value.ensures) in
    rw c.from_residual.ensures above
