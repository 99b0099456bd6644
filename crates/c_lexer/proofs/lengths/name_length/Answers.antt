use Rattle.std.proofs.Common.{sym, ◌∙◌, ap, ◌+◌}
use Rattle.std.specs.List.{prefix_len}
use Rattle.c_names.specs.Names.{is_word_byte}
use Rattle.c_lexer.proofs.LengthLemmas.{name-first, name-none, rest-is}
use Rattle.c_lexer.proofs.lengths.name_length.Goals as goal

pub returns-then-is_nondigit : goal.returns-then-is_nondigit
returns-then-is_nondigit c =
    name-first c.args.text.now _ c.in-len1-up.len_at_least (sym c.is_nondigit.ensures ∙ c.if-is_nondigit.true)
    (ap (λ n. 1 + n) (c.word_len.ensures.run ∙ ap (prefix_len is_word_byte) (rest-is 1 c.args.text.now)))

pub returns-else-is_nondigit : goal.returns-else-is_nondigit
returns-else-is_nondigit c =
    name-none c.args.text.now c.in-len1-up.len_at_least (sym c.is_nondigit.ensures ∙ c.if-is_nondigit.false)
