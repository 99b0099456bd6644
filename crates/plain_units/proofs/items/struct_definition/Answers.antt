use Rattle.c_tree.specs.declared.kinds.Kind.TheVariants as k
use Rattle.c_tree.specs.Trees.{PlainTrees, node, plain_tree, plain_trees}
use Rattle.core_meaning.specs.UnitNames.{UnitState, judged_item, defined_struct}
use Rattle.plain_expressions.proofs.Answering.{judges_as}
use Rattle.plain_objects.specs.PlainStates.{plain_state}
use Rattle.plain_units.specs.Items.{struct_item_is}
use Rattle.plain_units.proofs.items.struct_definition.Goals as goal

pub returns : goal.returns
returns c = λ globals.
    let unit : UnitState = plain_state globals c.args.unit.now in
    let words : PlainTrees = plain_trees c.in_ok-words.words.now in
    let members : PlainTrees = plain_trees c.in_ok-list.list.now in
    let behind : PlainTrees = plain_trees c.args.behind.now in
    judges_as (judged_item globals unit (node k.StructDefinition (plain_trees c.args.parts.now)) behind) (defined_struct unit words members) (λ (u : Unit {0}). plain_state globals c.define_in_scope.new.unit) c.args.used.now c.define_in_scope.new.used c.define_in_scope.result
    (struct_item_is globals unit (plain_trees c.args.parts.now) (plain_tree c.in_ok-tag.tag.now) (plain_tree c.in_ok-tag.field-0-1.now) (plain_tree c.in_ok-tag.list.now) (plain_trees c.in_ok-tag.field-0-3.now) words members behind c.in_ok-tag.ensures c.in_ok-words.ensures c.in_ok-list.ensures)
    (c.define_in_scope.ensures globals)
