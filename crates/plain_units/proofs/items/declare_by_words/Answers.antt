use Rattle.std.proofs.Common.{rules}
use Rattle.std.proofs.lemmas.Result.{MatchResult-weaker}
use Rattle.c_tree.specs.Trees.{PlainTrees, plain_trees}
use Rattle.core_meaning.specs.Declarations.{Based}
use Rattle.core_meaning.specs.UnitNames.{UnitState, Storage}
use Rattle.plain_scope.specs.PlainScope.{uses_of}
use Rattle.plain_scope.specs.Judgements.{RefusedAs}
use Rattle.plain_declarators.specs.PlainBased.{plain_based}
use Rattle.plain_objects.specs.PlainStates.{plain_state, plain_storage}
use Rattle.plain_units.specs.Items.{declaration_item, declaration_gives, words_refused, declarators_refused}
use Rattle.plain_units.proofs.items.declare_by_words.Goals as goal

pub returns-in_err-base : goal.returns-in_err-base
returns-in_err-base c = λ globals.
    let unit : UnitState = plain_state globals c.args.unit.now in
    let words : PlainTrees = plain_trees c.args.words.now in
    let list : PlainTrees = plain_trees c.args.list.now in
    let behind : PlainTrees = plain_trees c.args.behind.now in
    let outer : RefusedAs (declaration_item globals unit words list behind) c.in_err-base.field-0.0 = words_refused globals unit words list behind c.in_err-base.field-0.0 c.in_err-base.ensures in
    search (rules, outer)

pub returns : goal.returns
returns c = λ globals.
    let unit : UnitState = plain_state globals c.args.unit.now in
    let words : PlainTrees = plain_trees c.args.words.now in
    let list : PlainTrees = plain_trees c.args.list.now in
    let behind : PlainTrees = plain_trees c.args.behind.now in
    let base : Based = plain_based c.declared_base.new.scope c.in_ok-base.base in
    let storage : Storage = plain_storage c.storage_of.result in
    MatchResult-weaker c.declare_from.result (c.declare_from.ensures globals)
    (λ u g. declaration_gives globals unit words list behind base storage (plain_state globals c.declare_from.new.unit) (uses_of c.args.used.now) (uses_of c.declare_from.new.used) c.in_ok-base.ensures c.storage_of.ensures g)
    (λ error r. declarators_refused globals unit words list behind base storage error c.in_ok-base.ensures c.storage_of.ensures r)
