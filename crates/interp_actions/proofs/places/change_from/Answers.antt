use Rattle.std.proofs.Common.{sym, ap, ◌∙◌, Option, option_map}
use Rattle.core_meaning.specs.Values.{Scalar}
use Rattle.core_cells.specs.Forms.{plain_pointer, plain_scalar}
use Rattle.core_memory.specs.MemoryForms.{structs_of}
use Rattle.interp_actions.specs.Continued.{given_then}
use Rattle.interp_actions.specs.Pieces.{in_memory}
use Rattle.interp_actions.specs.PieceForms.{updated_piece, changed_piece}
use Rattle.interp_actions.specs.PieceLaws.{gives_as}
use Rattle.interp_actions.proofs.places.change_from.Goals as goal

pub returns-in-None : goal.returns-in-None
returns-in-None c =
    let m = c.args.memory.now in
    let old = plain_scalar c.args.old in
    record {
      undefined = λ k s.
          ap (λ (x : Option Scalar). given_then x (λ v. updated_piece (structs_of m) c.args.keeps_old (plain_pointer c.args.place.now) old v k) (in_memory s m))
          (sym c.in_ok-changed.ensures ∙ ap (option_map plain_scalar) c.in-None.is);
    }

pub returns-in_ok-flow-in-Some : goal.returns-in_ok-flow-in-Some
returns-in_ok-flow-in-Some c =
    let m = c.args.memory.now in
    let old = plain_scalar c.args.old in
    let place = plain_pointer c.args.place.now in
    gives_as c.in_ok-flow-in-Some.flow (updated_piece (structs_of m) c.args.keeps_old place old (plain_scalar c.in-Some.new)) (changed_piece (structs_of m) c.args.keeps_old c.args.change place old (plain_scalar c.args.right.now))
    c.args.control.now c.write_changed.new.control m c.write_changed.new.memory c.in_ok-flow-in-Some.ensures
    (λ k s.
    sym (ap (λ (x : Option Scalar). given_then x (λ v. updated_piece (structs_of m) c.args.keeps_old place old v k) (in_memory s m))
    (sym c.in_ok-changed.ensures ∙ ap (option_map plain_scalar) c.in-Some.is)))
