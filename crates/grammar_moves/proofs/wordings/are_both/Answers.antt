use Rattle.std.proofs.Common.{◌+◌, ◌∙◌, sym, length, ◌++◌, length-append}
use Rattle.std.proofs.lemmas.Bool.{ne_eqb}
use Rattle.grammar_moves.proofs.WordLemmas.{same-length, other-length}
use Rattle.grammar_moves.proofs.wordings.are_both.Goals as goal

pub returns-then-words-first : goal.returns-then-words-first
returns-then-words-first c =
    c.begins_with.ensures
    ∙ same-length c.args.words.now (c.args.first.now ++ c.args.second.now) (c.if-words-first.true ∙ sym (length-append c.args.first.now c.args.second.now))

pub returns-else-words-first : goal.returns-else-words-first
returns-else-words-first c =
    ne_eqb (length c.args.words.now) (length c.args.first.now + length c.args.second.now) c.if-words-first.false
    ∙ sym (other-length c.args.words.now (c.args.first.now ++ c.args.second.now)
    (λ e. c.if-words-first.false (e ∙ length-append c.args.first.now c.args.second.now)))
