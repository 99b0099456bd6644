use Rattle.std.proofs.Common.{ap, ◌∙◌}
use Rattle.std.proofs.lemmas.Result.{IfOk-weaker}
use Rattle.cond_formula.specs.Features.{has}
use Rattle.choice_trees.specs.ChoiceTrees.{plain_item, item_at}
use Rattle.type_tables.specs.Seen.{seen_tables}
use Rattle.cond_initialisers.specs.Refusals.{members_in, refuses}
use Rattle.cond_initialisers.proofs.reading.where_refused.Goals as goal

pub returns-clause-refused : goal.returns-clause-refused
returns-clause-refused g c = IfOk-weaker c.where_item_refused.result _ _ (λ f holds n right admitted globals scope follows asked t e there d path behind.
    let tables = seen_tables (has n) c.args.tables.now in
    let tree = item_at (has n) (plain_item c.args.initialiser.now) in
    holds n right admitted
    ∙ (ap (refuses (g.K.Expressions.asked c.args.known.now n) (members_in tables) tree) e
    ∙ c.initialisers_are_refused.ensures tables scope follows globals (g.K.Expressions.asked c.args.known.now n) asked tree d t there path behind)) c.where_item_refused.ensures.same
