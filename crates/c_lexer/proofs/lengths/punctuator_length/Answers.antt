use Rattle.std.proofs.Common.{sym, ◌∙◌}
use Rattle.c_lexer.proofs.LengthLemmas.{punctuator-three, punctuator-two, punctuator-one, punctuator-none}
use Rattle.c_lexer.proofs.lengths.punctuator_length.Goals as goal

pub returns-then-begins_with_punctuator : goal.returns-then-begins_with_punctuator
returns-then-begins_with_punctuator c =
    punctuator-three c.args.text.now (sym c.begins_with_punctuator.ensures ∙ c.if-begins_with_punctuator.true)

pub returns-then-begins_with_punctuator-2 : goal.returns-then-begins_with_punctuator-2
returns-then-begins_with_punctuator-2 c =
    punctuator-two c.args.text.now (sym c.begins_with_punctuator.ensures ∙ c.if-begins_with_punctuator.false)
    (sym c.begins_with_punctuator-else-begins_with_punctuator.ensures ∙ c.if-begins_with_punctuator-2.true)

pub returns-then-begins_with_punctuator-3 : goal.returns-then-begins_with_punctuator-3
returns-then-begins_with_punctuator-3 c =
    punctuator-one c.args.text.now (sym c.begins_with_punctuator.ensures ∙ c.if-begins_with_punctuator.false)
    (sym c.begins_with_punctuator-else-begins_with_punctuator.ensures ∙ c.if-begins_with_punctuator-2.false)
    (sym c.begins_with_punctuator-else-begins_with_punctuator-2.ensures ∙ c.if-begins_with_punctuator-3.true)

pub returns-else-begins_with_punctuator-3 : goal.returns-else-begins_with_punctuator-3
returns-else-begins_with_punctuator-3 c =
    punctuator-none c.args.text.now (sym c.begins_with_punctuator.ensures ∙ c.if-begins_with_punctuator.false)
    (sym c.begins_with_punctuator-else-begins_with_punctuator.ensures ∙ c.if-begins_with_punctuator-2.false)
    (sym c.begins_with_punctuator-else-begins_with_punctuator-2.ensures ∙ c.if-begins_with_punctuator-3.false)
