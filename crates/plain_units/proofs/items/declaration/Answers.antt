use Rattle.c_tree.specs.declared.kinds.Kind.TheVariants as k
use Rattle.c_tree.specs.Trees.{PlainTrees, node, plain_tree, plain_trees}
use Rattle.core_meaning.specs.UnitNames.{UnitState, judged_item}
use Rattle.plain_expressions.proofs.Answering.{judges_as}
use Rattle.plain_objects.specs.PlainStates.{plain_state}
use Rattle.plain_units.specs.Items.{declaration_item, declaration_item_is}
use Rattle.plain_units.proofs.items.declaration.Goals as goal

pub returns : goal.returns
returns c = λ globals.
    let unit : UnitState = plain_state globals c.args.unit.now in
    let words : PlainTrees = plain_trees c.in_ok-words-2.words.now in
    let list : PlainTrees = plain_trees c.in_ok-list.list.now in
    let behind : PlainTrees = plain_trees c.args.behind.now in
    judges_as (judged_item globals unit (node k.Declaration (plain_trees c.args.parts.now)) behind) (declaration_item globals unit words list behind) (λ (u : Unit {0}). plain_state globals c.declare_by_words.new.unit) c.args.used.now c.declare_by_words.new.used c.declare_by_words.result
    (declaration_item_is globals unit (plain_trees c.args.parts.now) (plain_tree c.in_ok-words.words.now) (plain_tree c.in_ok-words.list.now) (plain_tree c.in_ok-words.field-0-2.now) words list behind c.in_ok-words.ensures c.in_ok-words-2.ensures c.in_ok-list.ensures)
    (c.declare_by_words.ensures globals)
