use Rattle.std.proofs.Common.{◌≡◌, rules}
use Rattle.std.proofs.lemmas.Result.{MatchResult-weaker}
use Rattle.std.specs.Prelude.{Some}
use Rattle.c_text.specs.Token.{PlainToken, plain_token}
use Rattle.c_types.specs.Types.{PlainType, plain_type}
use Rattle.c_tree.specs.Trees.{PlainTree, PlainTrees, plain_tree, plain_trees}
use Rattle.core_meaning.specs.Declarations.{name_in}
use Rattle.core_meaning.specs.UnitNames.{UnitState, Storage}
use Rattle.plain_scope.specs.PlainScope.{uses_of}
use Rattle.plain_objects.specs.PlainStates.{plain_state, plain_storage}
use Rattle.plain_units.specs.Items.{name_gives, name_refused}
use Rattle.plain_units.proofs.items.define_named.Goals as goal

pub returns : goal.returns
returns c = λ globals.
    let unit : UnitState = plain_state globals c.args.unit.now in
    let words : PlainTrees = plain_trees c.args.words.now in
    let ty : PlainType = plain_type c.args.base.now in
    let parts : PlainTrees = plain_trees c.args.parts.now in
    let body : PlainTree = plain_tree c.args.body.now in
    let name : PlainToken = plain_token c.in-Some.name.now in
    let storage : Storage = plain_storage c.storage_of.result in
    let named : name_in parts ≡ Some name = search rules in
    MatchResult-weaker c.define_function.result (c.define_function.ensures globals)
    (λ u g. name_gives unit words ty parts body name storage (plain_state globals c.define_function.new.unit) (uses_of c.args.used.now) (uses_of c.define_function.new.used) named c.storage_of.ensures g)
    (λ error r. name_refused unit words ty parts body name storage error named c.storage_of.ensures r)
