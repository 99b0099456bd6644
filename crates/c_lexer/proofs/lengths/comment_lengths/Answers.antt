use Rattle.std.proofs.Common.{sym, ◌∙◌}
use Rattle.c_lexer.proofs.LengthLemmas.{comment-first, block-none, open-none}
use Rattle.c_lexer.proofs.lengths.comment_lengths.Goals as goal

pub returns-then-starts_with-clause-closed : goal.returns-then-starts_with-clause-closed
returns-then-starts_with-clause-closed c =
    (comment-first c.args.text.now c.lengths_to.result (sym c.starts_with.ensures.value ∙ c.if-starts_with.true) c.comment_end.result
    c.comment_end.ensures.run c.lengths_to.ensures).0

pub returns-then-starts_with-clause-unclosed : goal.returns-then-starts_with-clause-unclosed
returns-then-starts_with-clause-unclosed c =
    (comment-first c.args.text.now c.lengths_to.result (sym c.starts_with.ensures.value ∙ c.if-starts_with.true) c.comment_end.result
    c.comment_end.ensures.run c.lengths_to.ensures).1

pub returns-else-starts_with-clause-closed : goal.returns-else-starts_with-clause-closed
returns-else-starts_with-clause-closed c = block-none c.args.text.now (sym c.starts_with.ensures.value ∙ c.if-starts_with.false)

pub returns-else-starts_with-clause-unclosed : goal.returns-else-starts_with-clause-unclosed
returns-else-starts_with-clause-unclosed c = open-none c.args.text.now (sym c.starts_with.ensures.value ∙ c.if-starts_with.false)
