use Rattle.std.proofs.Common.{length, map, refl, ap, ◌∙◌, option_map}
use Rattle.std.proofs.lemmas.Option.{slice_get-map, slice_get_past, slice_get_read}
use Rattle.c_types.specs.Types.{plain_type}
use Rattle.core_meaning.specs.Plain.{plain_items, plain_part}
use Rattle.core_meaning.specs.Program.{local}
use Rattle.interp_actions.specs.Actions.{items_action}
use Rattle.run_machine.specs.Machines.{declared_outcome}
use Rattle.run_machine.proofs.MachineLemmas.{come_is}
use Rattle.run_statements.proofs.ScopeLemmas.{local_known, local_missing}
use Rattle.run_statements.proofs.declarations.local.Goals as goal

pub returns-in-None : goal.returns-in-None
returns-in-None c =
    let m = c.args.machine.now in
    let types = m.frame.types.now in
    local_missing m c.args.slot (map plain_part c.args.parts.now) (plain_items c.args.rest.now)
    (slice_get-map plain_type types c.args.slot ∙ ap (option_map plain_type) (slice_get_past types c.args.slot c.in-None.ensures.lookup.3))

pub returns-in-Some : goal.returns-in-Some
returns-in-Some c =
    let m = c.args.machine.now in
    let types = m.frame.types.now in
    let i = c.args.slot in
    let ty = c.in-Some.ty.now in
    let parts = map plain_part c.args.parts.now in
    let rest = plain_items c.args.rest.now in
    come_is c.local_of.result (declared_outcome i (plain_type ty) parts rest m) (items_action (local i parts rest)) m c.local_of.new.machine c.local_of.ensures
    (local_known m i (plain_type ty) parts rest
    (slice_get-map plain_type types i ∙ ap (option_map plain_type) (slice_get_read types (length types) i ty refl c.in-Some.ensures.lookup.3.0 c.in-Some.ensures.lookup.1)))
