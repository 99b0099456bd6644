use Rattle.std.proofs.Common.{rules}
use Rattle.std.proofs.lemmas.Result.{MatchResult-weaker}
use Rattle.c_tree.specs.Trees.{PlainTree, PlainTrees, plain_tree, plain_trees}
use Rattle.core_meaning.specs.Declarations.{Based}
use Rattle.core_meaning.specs.UnitNames.{UnitState}
use Rattle.plain_scope.specs.PlainScope.{uses_of}
use Rattle.plain_scope.specs.Judgements.{RefusedAs}
use Rattle.plain_declarators.specs.PlainBased.{plain_based}
use Rattle.plain_objects.specs.PlainStates.{plain_state}
use Rattle.plain_units.specs.Items.{function_item, function_item_gives, function_words_refused, function_item_refused}
use Rattle.plain_units.proofs.items.define_by_words.Goals as goal

pub returns-in_err-base : goal.returns-in_err-base
returns-in_err-base c = λ globals.
    let unit : UnitState = plain_state globals c.args.unit.now in
    let words : PlainTrees = plain_trees c.args.words.now in
    let parts : PlainTrees = plain_trees c.args.parts.now in
    let body : PlainTree = plain_tree c.args.body.now in
    let outer : RefusedAs (function_item unit words parts body) c.in_err-base.field-0.0 = function_words_refused unit words parts body c.in_err-base.field-0.0 c.in_err-base.ensures in
    search (rules, outer)

pub returns : goal.returns
returns c = λ globals.
    let unit : UnitState = plain_state globals c.args.unit.now in
    let words : PlainTrees = plain_trees c.args.words.now in
    let parts : PlainTrees = plain_trees c.args.parts.now in
    let body : PlainTree = plain_tree c.args.body.now in
    let base : Based = plain_based c.args.unit.now.scope c.in_ok-base.base in
    MatchResult-weaker c.define_named.result (c.define_named.ensures globals)
    (λ u g. function_item_gives unit words parts body base (plain_state globals c.define_named.new.unit) (uses_of c.args.used.now) (uses_of c.define_named.new.used) c.in_ok-base.ensures g)
    (λ error r. function_item_refused unit words parts body base error c.in_ok-base.ensures r)
