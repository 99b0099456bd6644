use Rattle.std.proofs.Common.{◌∷◌, length, map, reverse, refl, ap, ◌∙◌, option_map}
use Rattle.std.proofs.lemmas.Option.{slice_get-map, slice_get_past, slice_get_read}
use Rattle.c_types.specs.Types.{plain_type}
use Rattle.core_meaning.specs.Plain.{plain_items}
use Rattle.core_cells.specs.Forms.{plain_value}
use Rattle.interp_actions.specs.Actions.{enter_action}
use Rattle.run_machine.specs.Machines.{entered_outcome}
use Rattle.run_calls.proofs.CallLemmas.{entered_known, entered_missing}
use Rattle.run_machine.proofs.MachineLemmas.{come_is}
use Rattle.run_calls.proofs.calls.enter_with.Goals as goal

pub returns-in-None : goal.returns-in-None
returns-in-None c =
    let m = c.args.machine.now in
    let types = m.frame.types.now in
    entered_missing m c.args.slot (plain_value c.args.value) (reverse (map plain_value c.args.values.items)) (plain_items c.args.body.now)
    (slice_get-map plain_type types c.args.slot ∙ ap (option_map plain_type) (slice_get_past types c.args.slot c.in-None.ensures.lookup.3))

pub returns-in-Some : goal.returns-in-Some
returns-in-Some c =
    let m = c.args.machine.now in
    let types = m.frame.types.now in
    let i = c.args.slot in
    let ty = c.in-Some.ty.now in
    let v = plain_value c.args.value in
    let vs = reverse (map plain_value c.args.values.items) in
    let body = plain_items c.args.body.now in
    come_is c.enter_slot.result (entered_outcome i (plain_type ty) v vs body m) (enter_action i (v ∷ vs) body) m c.enter_slot.new.machine c.enter_slot.ensures
    (entered_known m i (plain_type ty) v vs body
    (slice_get-map plain_type types i ∙ ap (option_map plain_type) (slice_get_read types (length types) i ty refl c.in-Some.ensures.lookup.3.0 c.in-Some.ensures.lookup.1)))
