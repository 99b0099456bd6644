use Rattle.std.proofs.Common.{map}
use Rattle.std.proofs.lemmas.Result.{MatchResult-weaker}
use Rattle.std.specs.Prelude.{Option, option_map}
use Rattle.c_text.specs.Token.{PlainToken, plain_token}
use Rattle.c_types.specs.Types.{plain_type}
use Rattle.c_tree.specs.Trees.{PlainTree, plain_tree}
use Rattle.core_meaning.specs.Entities.{Scope, Signature}
use Rattle.core_meaning.specs.UnitNames.{Storage, signature_of}
use Rattle.plain_scope.specs.PlainScope.{plain_scope}
use Rattle.plain_parameters.specs.PlainParameters.{plain_parameter}
use Rattle.plain_objects.specs.PlainStates.{plain_storage}
use Rattle.plain_units.specs.Functions.{placed_is, initialiser_refused}
use Rattle.plain_units.proofs.functions.place_function.Goals as goal

pub returns : goal.returns
returns c =
    let scope : Scope = plain_scope c.args.scope.now in
    let named : Scope = plain_scope c.name_function.new.scope in
    let storage : Storage = plain_storage c.args.storage in
    let f : Signature = signature_of (plain_type c.args.returns.now) (map plain_parameter c.args.parameters.now) in
    let name : PlainToken = plain_token c.args.name.now in
    let initialiser : Option PlainTree = option_map (λ t. plain_tree t.now) c.args.initialiser in
    MatchResult-weaker c.refuse_initialiser.result c.refuse_initialiser.ensures
    (λ u is. placed_is scope named storage f name initialiser c.in_ok-name_function.ensures is)
    (λ error r. initialiser_refused scope named storage f name initialiser error c.in_ok-name_function.ensures r)
