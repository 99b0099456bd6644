use Rattle.std.proofs.Common.{sym, ◌∙◌}
use Rattle.cond_typing.proofs.FoundWords.{word_found, word_passed}
use Rattle.cond_typing.proofs.casts.has_word.Goals as goal

pub returns-then-is_word : goal.returns-then-is_word
returns-then-is_word c = λ on.
    sym (sym (c.loop-part.invariant on) ∙
    word_found on c.args.wanted c.args.parts.now c.loop-part.part-index c.part-item.result c.loop-part-test.true c.part-item.is (sym (c.is_word.ensures on) ∙ c.if-is_word.true))

pub loop-part-preserved : goal.loop-part-preserved
loop-part-preserved c = λ on.
    word_passed on c.args.wanted c.args.parts.now c.loop-part.part-index c.part-item.result c.loop-part-test.true c.part-item.is (sym (c.is_word.ensures on) ∙ c.if-is_word.false) ∙
    c.loop-part.invariant on
