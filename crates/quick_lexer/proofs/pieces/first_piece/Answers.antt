use Rattle.std.proofs.Common.{sym, ◌∙◌, arith}
use Rattle.quick_lexer.proofs.PieceLemmas.{pieces_of-run, IsPiece-run}
use Rattle.quick_lexer.proofs.pieces.first_piece.Goals as goal

pub returns-then-is_word_byte-clause-some : goal.returns-then-is_word_byte-clause-some
returns-then-is_word_byte-clause-some c =
    rw (c.split_at.ensures.front, c.split_at.ensures.back)
    (pieces_of-run c.args.line.now c.word_len.result (omega arith) (sym c.is_word_byte.ensures ∙ c.if-is_word_byte.true) c.word_len.ensures.run)

pub returns-then-is_word_byte-clause-cut : goal.returns-then-is_word_byte-clause-cut
returns-then-is_word_byte-clause-cut c =
    rw (c.split_at.ensures.front, c.split_at.ensures.back)
    (IsPiece-run c.args.line.now c.word_len.result (omega arith) (sym c.is_word_byte.ensures ∙ c.if-is_word_byte.true) c.word_len.ensures.run)
