use Rattle.std.proofs.lemmas.Result.{IfOk-weaker}
use Rattle.cond_formula.specs.Features.{has}
use Rattle.cond_formula.specs.Conditions.{condition_of, value}
use Rattle.c_tree.specs.Trees.{none, more}
use Rattle.choice_variants.specs.Variants.{part_at}
use Rattle.type_tables.specs.Seen.{seen_tables}
use Rattle.cond_locals.proofs.Parts.{undeclared_words}
use Rattle.cond_locals.proofs.declarations.declare_two.Goals as goal

pub returns-in-NoStatement-clause-declares : goal.returns-in-NoStatement-clause-declares
returns-in-NoStatement-clause-declares g c =
    IfOk-weaker c.never.result _ _ (λ f off n end admitted.
    undeclared_words (has n) c.args.words.now (more (part_at (has n) c.args.list.now) (more end none)) (value (has n) (condition_of c.args.when.now)) (seen_tables (has n) c.args.tables.now) (value (has n) (condition_of f))
    c.in-NoStatement.is (off (has n))) c.never.ensures
