use Rattle.std.proofs.Common.{List, map, subst}
use Rattle.std.proofs.lemmas.Result.{MatchResult-weaker}
use Rattle.std.specs.Prelude.{Option, option_map}
use Rattle.c_text.specs.Token.{PlainToken, plain_token}
use Rattle.c_types.specs.Types.{PlainType, plain_type}
use Rattle.c_tree.specs.Trees.{PlainTree, PlainTrees, plain_tree, plain_trees}
use Rattle.core_meaning.specs.Declarations.{Parameter}
use Rattle.core_meaning.specs.Entities.{Scope}
use Rattle.core_meaning.specs.UnitNames.{Storage, signature_of}
use Rattle.plain_scope.specs.PlainScope.{plain_scope, uses_of}
use Rattle.plain_scope.specs.Judgements.{Answers}
use Rattle.plain_parameters.specs.PlainParameters.{plain_parameter}
use Rattle.plain_parameters.specs.declared.parameters.Parameter.{Parameter as RustParameter}
use Rattle.plain_objects.specs.PlainStates.{plain_storage}
use Rattle.plain_units.specs.Functions.{placed_function, placing_refused, declared_gives}
use Rattle.plain_units.proofs.functions.declare_function.Goals as goal

pub returns : goal.returns
returns c =
    let scope : Scope = plain_scope c.args.scope.now in
    let behind : Scope = plain_scope c.new_function.new.scope in
    let last : Scope = plain_scope c.place_function.new.scope in
    let storage : Storage = plain_storage c.args.storage in
    let base : PlainType = plain_type c.args.base.now in
    let result : PlainType = plain_type c.in_ok-returns.returns in
    let parts : PlainTrees = plain_trees c.args.parts.now in
    let name : PlainToken = plain_token c.args.name.now in
    let initialiser : Option PlainTree = option_map (λ t. plain_tree t.now) c.args.initialiser in
    let parameters : List Parameter = map plain_parameter c.in_ok-parameters.parameters.items in
    let placed : Answers (placed_function behind storage (signature_of result parameters) name initialiser) (λ (u : Unit {0}). last) c.place_function.result =
    subst (λ (ps : List RustParameter). Answers (placed_function behind storage (signature_of result (map plain_parameter ps)) name initialiser) (λ (u : Unit {0}). last) c.place_function.result) c.as_slice.ensures.value c.place_function.ensures in
    MatchResult-weaker c.place_function.result placed
    (λ u is. declared_gives scope behind storage base result parts name initialiser parameters last (uses_of c.args.used.now) (uses_of c.new_function.new.used) c.in_ok-returns.ensures c.in_ok-parameters.ensures.judged c.in_ok-parameters.ensures.same is)
    (λ error r. placing_refused scope behind storage base result parts name initialiser parameters (uses_of c.args.used.now) (uses_of c.new_function.new.used) error c.in_ok-returns.ensures c.in_ok-parameters.ensures.judged c.in_ok-parameters.ensures.same r)
