use Rattle.std.proofs.Common.{◌≡◌, ap, refl}
use Rattle.std.specs.Prelude.{Option, Some, option_map}
use Rattle.c_text.specs.Token.{PlainToken, plain_token}
use Rattle.c_types.specs.Types.{PlainType, plain_type}
use Rattle.c_tree.specs.Trees.{PlainTree, plain_tree}
use Rattle.core_meaning.specs.UnitNames.{UnitState, Storage, defined_object}
use Rattle.plain_expressions.proofs.Answering.{judges_as}
use Rattle.plain_objects.specs.PlainStates.{plain_state, plain_storage}
use Rattle.plain_objects.proofs.objects.define_object.Goals as goal

pub returns-in-Some : goal.returns-in-Some
returns-in-Some c = λ globals.
    let unit : UnitState = plain_state globals c.args.unit.now in
    let storage : Storage = plain_storage c.args.storage in
    let ty : PlainType = plain_type c.args.ty.now in
    let name : PlainToken = plain_token c.args.name.now in
    let initialiser : Option PlainTree = option_map (λ t. plain_tree t.now) c.args.initialiser in
    let given : initialiser ≡ Some (plain_tree c.in-Some.tree.now) = rw c.in-Some.is refl in
    judges_as (defined_object globals unit storage ty name initialiser) (defined_object globals unit storage ty name (Some (plain_tree c.in-Some.tree.now))) (λ (u : Unit {0}). plain_state globals c.define_initialised.new.unit) c.args.used.now c.define_initialised.new.used c.define_initialised.result
    (ap (defined_object globals unit storage ty name) given)
    (c.define_initialised.ensures globals)
