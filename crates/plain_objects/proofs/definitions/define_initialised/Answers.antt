use Rattle.std.proofs.Common.{map, rules}
use Rattle.std.specs.Prelude.{Some}
use Rattle.c_text.specs.Token.{plain_token}
use Rattle.c_types.specs.Types.{plain_type}
use Rattle.c_tree.specs.Trees.{plain_tree}
use Rattle.core_meaning.specs.Plain.{plain_constant_part}
use Rattle.core_meaning.specs.UnitNames.{defined_object}
use Rattle.plain_scope.specs.PlainScope.{uses_of}
use Rattle.plain_scope.specs.Judgements.{RefusedAs}
use Rattle.plain_objects.specs.PlainStates.{plain_state, plain_storage}
use Rattle.plain_objects.specs.Objects.{object_gives, object_refused}
use Rattle.plain_objects.proofs.definitions.define_initialised.Goals as goal

pub returns-in_err-parts : goal.returns-in_err-parts
returns-in_err-parts c = λ globals.
    let outer : RefusedAs (defined_object globals (plain_state globals c.args.unit.now) (plain_storage c.args.storage) (plain_type c.args.ty.now) (plain_token c.args.name.now) (Some (plain_tree c.args.initialiser.now))) c.in_err-parts.field-0.0 = object_refused globals (plain_state globals c.args.unit.now) (plain_storage c.args.storage) (plain_type c.args.ty.now) (plain_token c.args.name.now) (plain_tree c.args.initialiser.now) c.in_err-parts.field-0.0 (c.in_err-parts.ensures globals) in
    search (rules, outer)

pub returns : goal.returns
returns c = λ globals.
    object_gives globals (plain_state globals c.args.unit.now) (plain_storage c.args.storage) (plain_type c.args.ty.now) (plain_token c.args.name.now) (plain_tree c.args.initialiser.now) (map (plain_constant_part globals) c.in_ok-parts.parts.items) (plain_state globals c.define.new.unit) (uses_of c.args.used.now) (uses_of c.object_parts.new.used) (c.in_ok-parts.ensures globals) (c.in_ok-define.ensures globals)
