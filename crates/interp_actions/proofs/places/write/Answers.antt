use Rattle.std.proofs.Common.{◌∷◌, refl, ap, ◌∙◌}
use Rattle.core_cells.specs.Forms.{plain_pointer, plain_value}
use Rattle.core_memory.specs.MemoryForms.{structs_of}
use Rattle.interp_actions.specs.declared.actions.Operand.TheVariants as operand
use Rattle.interp_actions.specs.Actions as plain
use Rattle.interp_actions.specs.Stacks.{operands_of}
use Rattle.interp_actions.specs.PieceForms.{write_piece}
use Rattle.interp_actions.specs.PieceLaws.{steps_with}
use Rattle.interp_actions.proofs.places.write.Goals as goal

pub returns-in_ok-flow-in-Some-take_place : goal.returns-in_ok-flow-in-Some-take_place
returns-in_ok-flow-in-Some-take_place c =
    let place = c.in-Some-take_place.place in
    let first = c.in-Some.value in
    let middle = c.take_place.new.self in
    let structs = structs_of c.args.memory.now in
    steps_with c.in_ok-flow-in-Some-take_place.flow (write_piece structs (plain_pointer place) (plain_value first) (plain.value_operand (plain_value first))) (plain.write_action)
    c.args.control.now middle c.write_value.new.control c.args.memory.now c.write_value.new.memory
    (operand.Value first ∷ operand.Place place ∷ operands_of middle)
    (c.take_place.ensures.actions ∙ c.take_value.ensures.actions)
    (c.in-Some.ensures.some ∙ ap (λ os. operand.Value first ∷ os) c.in-Some-take_place.ensures.some)
    c.in_ok-flow-in-Some-take_place.ensures
    (λ p ts n frame s. refl)
