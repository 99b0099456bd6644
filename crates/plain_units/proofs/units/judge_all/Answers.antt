use Rattle.std.proofs.Common.{List, map, rules}
use Rattle.c_tree.specs.Trees.{PlainTree, PlainTrees, plain_tree, plain_trees}
use Rattle.core_meaning.specs.Entities.{Struct, Numbers}
use Rattle.core_meaning.specs.UnitNames.{UnitState, judged_unit, judged_to_end}
use Rattle.plain_scope.specs.PlainScope.{plain_struct, uses_of}
use Rattle.plain_scope.specs.Judgements.{RefusedAs}
use Rattle.plain_declarators.specs.Sequences.{gives_of, refused_of}
use Rattle.plain_objects.specs.PlainStates.{plain_state}
use Rattle.plain_units.specs.Closing.{plain_numbers, unit_items}
use Rattle.plain_units.proofs.units.judge_all.Goals as goal

pub returns-in_err-judge_to_end : goal.returns-in_err-judge_to_end
returns-in_err-judge_to_end c = λ globals.
    let structs : List Struct = map plain_struct c.args.structs.items in
    let numbers : Numbers = plain_numbers c.args.numbers.now c.args.texts.now in
    let tree : PlainTree = plain_tree c.args.tree.now in
    let parts : PlainTrees = plain_trees c.in_ok-parts.parts.now in
    let start : UnitState = plain_state globals c.unit_start-unit.result in
    let is = unit_items globals structs numbers tree parts start c.in_ok-parts.ensures (c.unit_start-unit.ensures globals) in
    let outer : RefusedAs (judged_unit globals structs numbers tree) c.in_err-judge_to_end.field-0.0 = refused_of (judged_unit globals structs numbers tree) (judged_to_end globals start parts) c.in_err-judge_to_end.field-0.0 is (c.in_err-judge_to_end.ensures globals) in
    search (rules, outer)

pub returns : goal.returns
returns c = λ globals.
    let structs : List Struct = map plain_struct c.args.structs.items in
    let numbers : Numbers = plain_numbers c.args.numbers.now c.args.texts.now in
    let tree : PlainTree = plain_tree c.args.tree.now in
    let parts : PlainTrees = plain_trees c.in_ok-parts.parts.now in
    let start : UnitState = plain_state globals c.unit_start-unit.result in
    let is = unit_items globals structs numbers tree parts start c.in_ok-parts.ensures (c.unit_start-unit.ensures globals) in
    gives_of (judged_unit globals structs numbers tree) (judged_to_end globals start parts) (plain_state globals c.judge_to_end.new.unit) (uses_of c.args.used.now) (uses_of c.judge_to_end.new.used) is (c.in_ok-judge_to_end.ensures globals)
