use Rattle.std.proofs.lemmas.Result.{IfOk-weaker}
use Rattle.cond_formula.specs.Features.{has}
use Rattle.conditional.specs.Judgements.{bind}
use Rattle.choice_trees.specs.ChoiceTrees.{plain_item, item_at}
use Rattle.expression_types.specs.Reading.{read_expression}
use Rattle.cond_initialisers.specs.Refusals.{room_for}
use Rattle.cond_initialisers.proofs.typed_expressions.where_without_room.Goals as goal

pub returns-clause-same : goal.returns-clause-same
returns-clause-same g c = IfOk-weaker c.where_failed.result _ _ (λ f holds n right admitted.
    let outcome = (read_expression (g.K.Knowledge.known c.args.known.now n) (item_at (has n) (plain_item c.args.item.now))).outcome in
    holds (has n) (bind outcome (room_for c.args.count))
    (c.in_ok-tests.ensures (room_for c.args.count) (record { maps = λ o r answers. answers }) (has n) outcome (c.in_ok-read.ensures.shows n right admitted).outcome)) c.where_failed.ensures
