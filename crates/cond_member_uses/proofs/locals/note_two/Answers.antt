use Rattle.cond_formula.specs.Features.{has}
use Rattle.cond_formula.specs.Conditions.{condition_of, value}
use Rattle.c_tree.specs.Trees.{none, more}
use Rattle.choice_variants.specs.Variants.{part_at}
use Rattle.cond_member_uses.specs.Noted.{noted_at}
use Rattle.cond_member_uses.proofs.Declarations.{unnoted_words}
use Rattle.cond_member_uses.proofs.locals.note_two.Goals as goal

pub returns-in-NoStatement-clause-notes : goal.returns-in-NoStatement-clause-notes
returns-in-NoStatement-clause-notes g c = λ n end admitted.
    unnoted_words (has n) (value (has n) (condition_of c.args.when.now)) (noted_at (has n) c.args.tables.now c.args.log.now) c.args.words.now (more (part_at (has n) c.args.list.now) (more end none)) c.in-NoStatement.is
