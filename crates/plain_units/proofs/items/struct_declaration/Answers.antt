use Rattle.c_tree.specs.declared.kinds.Kind.TheVariants as k
use Rattle.c_tree.specs.Trees.{PlainTrees, node, plain_tree, plain_trees}
use Rattle.core_meaning.specs.UnitNames.{UnitState, judged_item}
use Rattle.plain_expressions.proofs.Answering.{judges_as}
use Rattle.plain_objects.specs.PlainStates.{plain_state}
use Rattle.plain_units.specs.Items.{tag_item, tag_item_is}
use Rattle.plain_units.proofs.items.struct_declaration.Goals as goal

pub returns : goal.returns
returns c = λ globals.
    let unit : UnitState = plain_state globals c.args.unit.now in
    let words : PlainTrees = plain_trees c.in_ok-words.words.now in
    let behind : PlainTrees = plain_trees c.args.behind.now in
    judges_as (judged_item globals unit (node k.StructDeclaration (plain_trees c.args.parts.now)) behind) (tag_item unit words) (λ (u : Unit {0}). plain_state globals c.declare_tag.new.unit) c.args.used.now c.args.used.now c.declare_tag.result
    (tag_item_is globals unit (plain_trees c.args.parts.now) (plain_tree c.in_ok-tag.tag.now) (plain_tree c.in_ok-tag.field-0-1.now) words behind c.in_ok-tag.ensures c.in_ok-words.ensures)
    (c.declare_tag.ensures globals)
