use Rattle.std.proofs.Common.{◌+◌, ◌-◌, ◌*◌, ◌<◌, drop, get_or, sym, arith}
use Rattle.std.proofs.lemmas.Bool.{lt-leb}
use Rattle.std.proofs.lemmas.List.{at_drop_more}
use Rattle.quick_form.specs.Words.{value_from, value_of}
use Rattle.quick_lexer.proofs.WordLemmas.{value_from-ge}
use Rattle.quick_lexer.proofs.words.fits_int.Goals as goal

pub returns-then-value-gt-INT_MAX : goal.returns-then-value-gt-INT_MAX
returns-then-value-gt-INT_MAX c =
    let ds = c.args.digits.now in
    let i = c.loop-digit.digit-index in
    let n = c.loop-digit.value in
    let next = 10 * n + (get_or ds i 0 - 48) in
    let step = at_drop_more (value_from n) ds i 0 (omega arith) in
    let ge = value_from-ge next (drop (i + 1) ds) in
    let above : 2147483647 < value_of ds = omega (arith, step, ge, c.loop-digit.invariant.1) in
    sym (lt-leb (value_of ds) 2147483647 above)
