use Rattle.std.proofs.Common.{subst}
use Rattle.c_text.specs.Constants.{begin_with_digit}
use Rattle.c_lexer.specs.Longest.{IsLongestOf}
use Rattle.c_lexer.proofs.LengthLemmas.{number-with_point, number-plain, rest-is}
use Rattle.c_lexer.proofs.lengths.number_length.Goals as goal

pub returns-then-first-eq46 : goal.returns-then-first-eq46
returns-then-first-eq46 c =
    let digits = subst (λ xs. IsLongestOf begin_with_digit xs c.digits_length.result) (rest-is 1 c.args.text.now) c.digits_length.ensures in
    number-with_point c.args.text.now c.digits_length.result _ c.in-len1-up.len_at_least c.if-first-eq46.true digits
    c.with_point.ensures.none c.with_point.ensures.some

pub returns-else-first-eq46 : goal.returns-else-first-eq46
returns-else-first-eq46 c =
    number-plain c.args.text.now _ c.in-len1-up.len_at_least c.if-first-eq46.false c.digits_length-else-first-eq46.ensures
