use Rattle.std.proofs.Common.{rules}
use Rattle.c_text.specs.Token.{plain_token}
use Rattle.c_types.specs.Types.{plain_type}
use Rattle.c_tree.specs.Trees.{plain_tree, plain_trees}
use Rattle.core_meaning.specs.UnitNames.{defined_function}
use Rattle.plain_scope.specs.PlainScope.{plain_scope, uses_of}
use Rattle.plain_scope.specs.Judgements.{RefusedAs}
use Rattle.plain_statements.specs.PlainJudged.{plain_judged_items}
use Rattle.plain_objects.specs.PlainStates.{plain_state, plain_storage}
use Rattle.plain_units.specs.Functions.{found_as, definition_gives, definition_refused}
use Rattle.plain_units.proofs.items.define_function.Goals as goal

pub returns-in_err-definition : goal.returns-in_err-definition
returns-in_err-definition c = λ globals.
    let outer : RefusedAs (defined_function (plain_state globals c.args.unit.now) (plain_storage c.args.storage) (plain_type c.args.base.now) (plain_trees c.args.parts.now) (plain_token c.args.name.now) (plain_tree c.args.body.now)) c.in_err-definition.field-0.0 = definition_refused (plain_state globals c.args.unit.now) (plain_storage c.args.storage) (plain_type c.args.base.now) (plain_trees c.args.parts.now) (plain_token c.args.name.now) (plain_tree c.args.body.now) c.in_err-definition.field-0.0 c.in_err-definition.ensures in
    search (rules, outer)

pub returns : goal.returns
returns c = λ globals.
    let d = c.in_ok-definition.definition in
    definition_gives (plain_state globals c.args.unit.now) (plain_storage c.args.storage) (plain_type c.args.base.now) (plain_trees c.args.parts.now) (plain_token c.args.name.now) (plain_tree c.args.body.now) (found_as (plain_scope c.judge_function.new.scope) (plain_judged_items d.slots.items d.body.items)) (plain_state globals c.define.new.unit) (uses_of c.args.used.now) (uses_of c.judge_function.new.used) c.in_ok-definition.ensures (c.in_ok-define.ensures globals)
