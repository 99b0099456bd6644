use Rattle.std.proofs.Common.{sym, ap, ◌∙◌}
use Rattle.std.proofs.lemmas.Result.{on_ok_weaker}
use Rattle.c_text.specs.Token.{plain_token}
use Rattle.cond_formula.specs.Features.{has}
use Rattle.cond_formula.specs.Conditions.{condition_of, value}
use Rattle.c_tree.specs.Trees.{node}
use Rattle.choice_trees.specs.ChoiceTrees.{plain_item, plain_choices, item_at, parts_at}
use Rattle.choice_trees.specs.ItemLaws.{plain_item-Node, plain_item-Leaf}
use Rattle.cond_member_uses.specs.Noted.{noted_at}
use Rattle.cond_member_uses.proofs.Blocks.{where_also}
use Rattle.cond_member_uses.proofs.Declarations.{unchanged}
use Rattle.cond_unit_uses.specs.Functions.{NotesNode}
use Rattle.cond_unit_uses.proofs.OneBlock.{no_node, node_noted}
use Rattle.cond_unit_uses.proofs.variants.note_node.Goals as goal

pub returns-in-Leaf-clause-notes : goal.returns-in-Leaf-clause-notes
returns-in-Leaf-clause-notes g c = λ n admitted.
    let a = noted_at (has n) c.args.tables.now c.args.log.now in
    unchanged (value (has n) (condition_of c.args.when.now)) (NotesNode (g.R.PartsReader.notes c.args.reader.now n) (item_at (has n) (plain_item c.args.item.now))) a
    (no_node (g.R.PartsReader.notes c.args.reader.now n) (item_at (has n) (plain_item c.args.item.now)) (plain_token c.in-Leaf.field-1) a
    (ap (item_at (has n)) (ap plain_item c.in-Leaf.is ∙ plain_item-Leaf c.in-Leaf.field-0 c.in-Leaf.field-1)))

pub returns-in-Node-clause-notes : goal.returns-in-Node-clause-notes
returns-in-Node-clause-notes g c =
    on_ok_weaker c.note_kind.result (λ notes n admitted.
    let a = noted_at (has n) c.args.tables.now c.args.log.now in
    let b = noted_at (has n) c.note_kind.new.tables c.note_kind.new.log in
    let is = ap (λ i. item_at (has n) (plain_item i)) c.in-Node.is ∙ ap (item_at (has n)) (plain_item-Node c.in-Node.kind c.in-Node.parts)
    ∙ ap (λ ps. node c.in-Node.kind (parts_at (has n) c.in-Node.kind 0 (plain_choices ps))) (sym c.deref.ensures.value) in
    where_also (value (has n) (condition_of c.args.when.now)) _ _ a b
    (node_noted (g.R.PartsReader.notes c.args.reader.now n) (item_at (has n) (plain_item c.args.item.now)) c.in-Node.kind (parts_at (has n) c.in-Node.kind 0 (plain_choices c.deref.result.now)) a b is)
    (notes n admitted)) c.note_kind.ensures.notes
