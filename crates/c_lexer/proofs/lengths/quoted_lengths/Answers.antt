use Rattle.c_lexer.proofs.LengthLemmas.{quoted-first}
use Rattle.c_lexer.proofs.lengths.quoted_lengths.Goals as goal

pub returns-then-first-quote-clause-closed : goal.returns-then-first-quote-clause-closed
returns-then-first-quote-clause-closed c =
    (quoted-first c.args.quote c.args.text.now c.lengths_to.result c.requires c.in-len1-up.len_at_least c.if-first-quote.true c.quote_end.result
    c.quote_end.ensures.run c.lengths_to.ensures).0

pub returns-then-first-quote-clause-unclosed : goal.returns-then-first-quote-clause-unclosed
returns-then-first-quote-clause-unclosed c =
    (quoted-first c.args.quote c.args.text.now c.lengths_to.result c.requires c.in-len1-up.len_at_least c.if-first-quote.true c.quote_end.result
    c.quote_end.ensures.run c.lengths_to.ensures).1
