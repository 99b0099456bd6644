use Rattle.std.proofs.Common.{sym, ◌∙◌, ap, ◌+◌, get_or}
use Rattle.c_lexer.specs.Scans.{number_from}
use Rattle.c_lexer.proofs.LengthLemmas.{digits-first, rest-is}
use Rattle.c_lexer.proofs.lengths.digits_length.Goals as goal

pub returns-then-is_digit : goal.returns-then-is_digit
returns-then-is_digit c =
    digits-first c.args.text.now _ c.in-len1-up.len_at_least (sym c.is_digit.ensures ∙ c.if-is_digit.true)
    (ap (λ n. 1 + n) (c.number_len.ensures.run ∙ ap (number_from (get_or c.args.text.now 0 0) 0) (rest-is 1 c.args.text.now)))
