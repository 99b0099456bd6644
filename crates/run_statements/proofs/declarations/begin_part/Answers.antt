use Rattle.std.proofs.Common.{[], ◌∷◌, map, reverse, refl, ap}
use Rattle.core_meaning.specs.Outcomes.{after}
use Rattle.core_meaning.specs.Plain.{plain_part}
use Rattle.interp_actions.specs.Forms.{plain_actions, plain_initialiser}
use Rattle.interp_actions.specs.Actions as plain
use Rattle.run_machine.specs.Machines.{program_of, state_of}
use Rattle.interp_actions.specs.StackLaws.{full_begins}
use Rattle.run_statements.proofs.declarations.begin_part.Goals as goal

pub returns : goal.returns
returns c =
    let m = c.args.machine.now in
    let p = program_of m in
    let part = plain_part c.args.part.now in
    let x = plain_initialiser c.args.target in
    let left = map plain_part c.args.rest.now in
    ap (after m.output.items)
    (full_begins p m.frame.types.now m.frame.slots.items m.frame.bound m.control (record m.control { actions = c.push.new.stack }) c.begin_full.new.control (record c.begin_full.new.control { actions = c.push_two.new.stack })
    (state_of m) (record (state_of m) { temporaries = reverse c.begin_full.new.temporaries.items }) (record (state_of m) { temporaries = [] })
    (plain.parts_action x (part ∷ left)) (plain.expression_action part.value ∷ plain.use_action ∷ []) (plain.write_part_action x part.path left) (plain.end_full_action (reverse m.temporaries.items))
    (ap (plain_actions m.frame.types.now m.frame.slots.items) c.in_ok-push_two.ensures) refl
    c.in_ok-begin_full.ensures.full
    (ap (plain_actions m.frame.types.now m.frame.slots.items) c.in_ok-push.ensures) refl
    (ap (λ temporaries. record (state_of m) { temporaries = reverse temporaries }) c.in_ok-begin_full.ensures.none)
    (λ ts os. refl))
