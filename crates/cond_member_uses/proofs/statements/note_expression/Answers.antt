use Rattle.std.proofs.Common.{refl}
use Rattle.std.proofs.lemmas.Result.{on_ok_weaker}
use Rattle.cond_formula.specs.Features.{has}
use Rattle.cond_formula.specs.Conditions.{condition_of, value}
use Rattle.conditional.specs.Entries.{seen, listed}
use Rattle.choice_trees.specs.ChoiceTrees.{plain_item, item_at}
use Rattle.type_tables.specs.Seen.{seen_tables}
use Rattle.cond_selections.specs.Selected.{plain_selection}
use Rattle.cond_member_uses.proofs.Noting.{expression_selected}
use Rattle.cond_member_uses.proofs.statements.note_expression.Goals as goal

pub returns-clause-notes : goal.returns-clause-notes
returns-clause-notes g c =
    on_ok_weaker c.push_selections.result (λ selects n admitted.
    expression_selected c.expressions_use_selections.ensures (seen_tables (has n) c.args.tables.now) (item_at (has n) (plain_item c.args.item.now)) (value (has n) (condition_of c.args.when.now))
    (seen (has n) (listed plain_selection c.args.log.now)) (seen (has n) (listed plain_selection c.push_selections.new.log)) (selects n refl admitted)) c.push_selections.ensures.selects
