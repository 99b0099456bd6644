use Rattle.std.proofs.Common.{refl, ap, subst, ◌∙◌}
use Rattle.std.proofs.lemmas.Result.{IfOk-weaker}
use Rattle.cond_formula.specs.Features.{has}
use Rattle.cond_formula.specs.Conditions.{value}
use Rattle.choice_trees.specs.ChoiceTrees.{plain_item, item_at}
use Rattle.operand_types.specs.OperandTypes.{renumbered}
use Rattle.operand_types.specs.Laws.{KeepsApart}
use Rattle.expression_types.specs.Known.{IsKnown}
use Rattle.expression_types.specs.Reading.{read_expression}
use Rattle.type_tables.specs.Tables.{known_in}
use Rattle.type_tables.specs.Seen.{seen_tables}
use Rattle.type_tables.proofs.Known.{known_followed}
use Rattle.cond_statements.specs.Uses.{use_of}
use Rattle.cond_statements.proofs.Judged.{expression_judged}
use Rattle.cond_statements.proofs.expressions.where_expression_refused.Goals as goal

pub returns-clause-refused : goal.returns-clause-refused
returns-clause-refused g c =
    IfOk-weaker c.without_refuted.result _ _ (λ f same n admitted by ty scope stands follows derived.
    let t = seen_tables (has n) c.args.tables.now in
    let tree = item_at (has n) (plain_item c.args.item.now) in
    let apart = subst KeepsApart follows.numbers follows.follows.apart in
    same n (ap (value (has n)) c.in_ok-read.ensures.kept ∙ admitted)
    ∙ c.in_ok-refused.ensures (has n) (read_expression (known_in t) tree).outcome (renumbered by ty) (c.in_ok-read.ensures.shows n refl admitted).outcome stands
    ∙ expression_judged by scope (c.types_are_kept.ensures by apart scope) apart c.expressions_have_types.ensures (known_in t) (subst (λ m. IsKnown m scope (known_in t)) follows.numbers (known_followed t scope follows.follows))
    (use_of c.args.usage) ty tree derived) c.without_refuted.ensures.same
