use Rattle.std.proofs.Common.{◌∷◌, refl, ap, ◌∙◌, false}
use Rattle.core_cells.specs.Forms.{plain_pointer, plain_scalar}
use Rattle.core_memory.specs.MemoryForms.{structs_of}
use Rattle.interp_actions.specs.declared.actions.Operand.TheVariants as operand
use Rattle.interp_actions.specs.Actions as plain
use Rattle.interp_actions.specs.Stacks.{operands_of}
use Rattle.interp_actions.specs.PieceForms.{update_piece}
use Rattle.interp_actions.specs.PieceLaws.{steps_with}
use Rattle.interp_actions.proofs.places.update.Goals as goal

pub returns : goal.returns
returns c =
    let place = c.in-Some-take_place.place in
    let first = c.in-Some.right in
    let middle = c.take_place.new.self in
    let structs = structs_of c.args.memory.now in
    steps_with c.in_ok-flow-in-Some-take_place.flow (update_piece structs false c.args.change (plain_pointer place) (plain_scalar first)) (plain.update_action c.args.change)
    c.args.control.now middle c.update_place.new.control c.args.memory.now c.update_place.new.memory
    (operand.Scalar first ∷ operand.Place place ∷ operands_of middle)
    (c.take_place.ensures.actions ∙ c.take_scalar.ensures.actions)
    (c.in-Some.ensures.some ∙ ap (λ os. operand.Scalar first ∷ os) c.in-Some-take_place.ensures.some)
    c.in_ok-flow-in-Some-take_place.ensures
    (λ p ts n frame s. refl)
