use Rattle.std.proofs.Common.{sym, ◌∙◌}
use Rattle.std.proofs.lemmas.Result.{on_ok_weaker}
use Rattle.cond_formula.specs.Features.{has}
use Rattle.cond_formula.specs.Conditions.{condition_of, value}
use Rattle.choice_trees.specs.ChoiceTrees.{plain_item, item_at}
use Rattle.cond_member_uses.specs.Noted.{noted_at}
use Rattle.cond_member_uses.proofs.Blocks.{where_also}
use Rattle.cond_member_uses.proofs.Declarations.{unchanged}
use Rattle.cond_unit_uses.specs.Functions.{NotesBehind}
use Rattle.cond_unit_uses.proofs.OneDefinition.{definition_noted, other_noted}
use Rattle.cond_unit_uses.proofs.definitions.note_item.Goals as goal

pub returns-clause-notes : goal.returns-clause-notes
returns-clause-notes g c = λ n admitted.
    let a = noted_at (has n) c.args.tables.now c.args.log.now in
    let tree = item_at (has n) (plain_item c.args.item.now) in
    unchanged (value (has n) (condition_of c.args.when.now)) (NotesBehind tree) a (other_noted c.declarations_use_nothing.ensures c.structs_use_nothing.ensures tree a (sym (c.is_definition.ensures (has n)) ∙ c.if-is_definition.false))

pub returns-then-is_definition-clause-notes : goal.returns-then-is_definition-clause-notes
returns-then-is_definition-clause-notes g c =
    on_ok_weaker c.note_node.result (λ notes n admitted.
    let a = noted_at (has n) c.args.tables.now c.args.log.now in
    let b = noted_at (has n) c.note_node.new.tables c.note_node.new.log in
    let tree = item_at (has n) (plain_item c.args.item.now) in
    where_also (value (has n) (condition_of c.args.when.now)) _ _ a b
    (definition_noted c.counts_need_no_names.ensures c.bodies_are_used.ensures c.functions_are_used.ensures c.scopes_keep_names.ensures tree a b (sym (c.is_definition.ensures (has n)) ∙ c.if-is_definition.true)) (notes n admitted)) c.note_node.ensures.notes
