use Rattle.std.proofs.Common.{ap}
use Rattle.c_tree.specs.declared.kinds.Kind.{Kind}
use Rattle.c_tree.specs.declared.kinds.Kind.TheVariants as k
use Rattle.c_tree.specs.Trees.{PlainTrees, node, plain_trees}
use Rattle.core_meaning.specs.UnitNames.{UnitState, judged_item}
use Rattle.plain_expressions.proofs.Answering.{judges_as}
use Rattle.plain_objects.specs.PlainStates.{plain_state}
use Rattle.plain_units.proofs.items.judge_by_kind.Goals as goal

pub returns-in-StructDefinition : goal.returns-in-StructDefinition
returns-in-StructDefinition c = λ globals.
    let unit : UnitState = plain_state globals c.args.unit.now in
    let parts : PlainTrees = plain_trees c.args.parts.now in
    let behind : PlainTrees = plain_trees c.args.behind.now in
    judges_as (judged_item globals unit (node c.args.kind parts) behind) (judged_item globals unit (node k.StructDefinition parts) behind) (λ (u : Unit {0}). plain_state globals c.struct_definition.new.unit) c.args.used.now c.struct_definition.new.used c.struct_definition.result
    (ap (λ (x : Kind). judged_item globals unit (node x parts) behind) c.in-StructDefinition.is)
    (c.struct_definition.ensures globals)

pub returns-in-StructDeclaration : goal.returns-in-StructDeclaration
returns-in-StructDeclaration c = λ globals.
    let unit : UnitState = plain_state globals c.args.unit.now in
    let parts : PlainTrees = plain_trees c.args.parts.now in
    let behind : PlainTrees = plain_trees c.args.behind.now in
    judges_as (judged_item globals unit (node c.args.kind parts) behind) (judged_item globals unit (node k.StructDeclaration parts) behind) (λ (u : Unit {0}). plain_state globals c.struct_declaration.new.unit) c.args.used.now c.args.used.now c.struct_declaration.result
    (ap (λ (x : Kind). judged_item globals unit (node x parts) behind) c.in-StructDeclaration.is)
    (c.struct_declaration.ensures globals)

pub returns-in-Declaration : goal.returns-in-Declaration
returns-in-Declaration c = λ globals.
    let unit : UnitState = plain_state globals c.args.unit.now in
    let parts : PlainTrees = plain_trees c.args.parts.now in
    let behind : PlainTrees = plain_trees c.args.behind.now in
    judges_as (judged_item globals unit (node c.args.kind parts) behind) (judged_item globals unit (node k.Declaration parts) behind) (λ (u : Unit {0}). plain_state globals c.declaration.new.unit) c.args.used.now c.declaration.new.used c.declaration.result
    (ap (λ (x : Kind). judged_item globals unit (node x parts) behind) c.in-Declaration.is)
    (c.declaration.ensures globals)

pub returns-in-Function : goal.returns-in-Function
returns-in-Function c = λ globals.
    let unit : UnitState = plain_state globals c.args.unit.now in
    let parts : PlainTrees = plain_trees c.args.parts.now in
    let behind : PlainTrees = plain_trees c.args.behind.now in
    judges_as (judged_item globals unit (node c.args.kind parts) behind) (judged_item globals unit (node k.Function parts) behind) (λ (u : Unit {0}). plain_state globals c.function_definition.new.unit) c.args.used.now c.function_definition.new.used c.function_definition.result
    (ap (λ (x : Kind). judged_item globals unit (node x parts) behind) c.in-Function.is)
    (c.function_definition.ensures globals)
