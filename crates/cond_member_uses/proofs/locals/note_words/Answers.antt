use Rattle.std.proofs.Common.{ap, ◌∙◌}
use Rattle.cond_formula.specs.Features.{has}
use Rattle.cond_formula.specs.Conditions.{condition_of, value}
use Rattle.choice_trees.specs.ChoiceTrees.{plain_item, item_at}
use Rattle.type_tables.specs.Seen.{seen_tables}
use Rattle.cond_member_uses.specs.Noted.{noted_at}
use Rattle.cond_member_uses.proofs.Answering.{on_three}
use Rattle.cond_member_uses.proofs.Words.{words_noted}
use Rattle.cond_member_uses.proofs.locals.note_words.Goals as goal

pub returns-clause-notes : goal.returns-clause-notes
returns-clause-notes g c =
    on_three c.note_list.result _ _ _ _ (λ outside notes elsewhere n end admitted.
    words_noted c.locals_are_used.ensures (has n) c.in_ok-base.base (item_at (has n) (plain_item c.args.words.now)) (item_at (has n) (plain_item c.args.list.now)) end (value (has n) (condition_of c.args.when.now))
    (noted_at (has n) c.args.tables.now c.args.log.now) (noted_at (has n) c.note_list.new.tables c.note_list.new.log) (ap (λ t. (seen_tables (has n) t).names) outside.same)
    (λ scope follows. c.in_ok-base.ensures.shows n scope follows admitted) (λ off. elsewhere n (ap (value (has n)) c.in_ok-base.ensures.kept ∙ admitted) off)
    (λ parts is. notes n parts (ap (value (has n)) c.in_ok-base.ensures.kept ∙ admitted) is)) c.note_list.ensures.outside c.note_list.ensures.notes c.note_list.ensures.elsewhere
