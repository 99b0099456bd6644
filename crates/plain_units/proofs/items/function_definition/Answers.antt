use Rattle.c_tree.specs.declared.kinds.Kind.TheVariants as k
use Rattle.c_tree.specs.Trees.{PlainTree, PlainTrees, node, plain_tree, plain_trees}
use Rattle.core_meaning.specs.UnitNames.{UnitState, judged_item}
use Rattle.plain_expressions.proofs.Answering.{judges_as}
use Rattle.plain_objects.specs.PlainStates.{plain_state}
use Rattle.plain_units.specs.Items.{function_item, function_item_is}
use Rattle.plain_units.proofs.items.function_definition.Goals as goal

pub returns : goal.returns
returns c = λ globals.
    let unit : UnitState = plain_state globals c.args.unit.now in
    let words : PlainTrees = plain_trees c.in_ok-words-2.words.now in
    let list : PlainTrees = plain_trees c.in_ok-list.list.now in
    let parts : PlainTrees = plain_trees c.in_ok-declarator.declarator.now in
    let body : PlainTree = plain_tree c.in_ok-words.body.now in
    let behind : PlainTrees = plain_trees c.args.behind.now in
    judges_as (judged_item globals unit (node k.Function (plain_trees c.args.parts.now)) behind) (function_item unit words parts body) (λ (u : Unit {0}). plain_state globals c.define_by_words.new.unit) c.args.used.now c.define_by_words.new.used c.define_by_words.result
    (function_item_is globals unit (plain_trees c.args.parts.now) (plain_tree c.in_ok-words.words.now) (plain_tree c.in_ok-words.list.now) body words list parts behind c.in_ok-words.ensures c.in_ok-words-2.ensures c.in_ok-list.ensures c.in_ok-declarator.ensures)
    (c.define_by_words.ensures globals)
