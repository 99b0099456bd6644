use Rattle.std.proofs.Common.{Some, sym, ap, ◌∙◌, Option, option_map}
use Rattle.core_meaning.specs.Values.{Value}
use Rattle.core_cells.specs.Forms.{plain_pointer, plain_scalar, plain_value}
use Rattle.core_memory.specs.MemoryForms.{structs_of}
use Rattle.interp_actions.specs.Continued.{given_then, scalar_then}
use Rattle.interp_actions.specs.Pieces.{in_memory}
use Rattle.interp_actions.specs.PieceForms.{changed_piece, update_piece}
use Rattle.interp_actions.specs.PieceLaws.{gives_as}
use Rattle.interp_actions.proofs.places.update_place.Goals as goal

pub returns : goal.returns
returns c =
    let m = c.args.memory.now in
    let place = plain_pointer c.args.place.now in
    let right = plain_scalar c.args.right.now in
    let old = c.in-Some-Scalar.old in
    gives_as c.in_ok-flow-in-Some-Scalar.flow (changed_piece (structs_of m) c.args.keeps_old c.args.change place (plain_scalar old) right) (update_piece (structs_of m) c.args.keeps_old c.args.change place right)
    c.args.control.now c.change_from.new.control m c.change_from.new.memory c.in_ok-flow-in-Some-Scalar.ensures
    (λ k s.
    sym (ap (λ (x : Option Value). given_then x (scalar_then (λ x. changed_piece (structs_of m) c.args.keeps_old c.args.change place x right k)) (in_memory s m))
    (sym c.in_ok-read.ensures ∙ ap (option_map plain_value) (c.in-Some-Scalar.is ∙ ap Some c.in-Some-Scalar.field-0-is))))
