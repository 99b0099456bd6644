use Rattle.std.proofs.Common.{sym, ◌∙◌, ap, ◌+◌, ◌==◌, not}
use Rattle.std.specs.List.{prefix_len}
use Rattle.c_lexer.proofs.LengthLemmas.{line_comment-first, line_comment-none, rest-is}
use Rattle.c_lexer.proofs.lengths.line_comment_length.Goals as goal

pub returns-then-starts_with : goal.returns-then-starts_with
returns-then-starts_with c =
    line_comment-first c.args.text.now _ (sym c.starts_with.ensures.value ∙ c.if-starts_with.true)
    (ap (λ n. 2 + n) (c.line_len.ensures.run ∙ ap (prefix_len (λ b. not (b == 10))) (rest-is 2 c.args.text.now)))

pub returns-else-starts_with : goal.returns-else-starts_with
returns-else-starts_with c = line_comment-none c.args.text.now (sym c.starts_with.ensures.value ∙ c.if-starts_with.false)
