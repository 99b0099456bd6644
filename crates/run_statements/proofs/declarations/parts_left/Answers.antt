use Rattle.std.proofs.Common.{◌-◌, ◌∷◌, length, take, drop, map, sym, ap}
use Rattle.core_meaning.specs.Plain.{plain_part}
use Rattle.interp_actions.specs.Actions.{parts_action}
use Rattle.interp_actions.specs.Forms.{plain_initialiser}
use Rattle.run_machine.specs.Machines.{outcome_with}
use Rattle.run_machine.proofs.ListLemmas.{first_of}
use Rattle.run_machine.proofs.MachineLemmas.{do_from}
use Rattle.run_statements.proofs.declarations.parts_left.Goals as goal

pub returns-in-len1-up : goal.returns-in-len1-up
returns-in-len1-up c =
    let m = c.args.machine.now in
    let x = plain_initialiser c.args.target in
    let xs = c.args.rest.now in
    let first = c.part-item.result in
    do_from c.begin_part.result (parts_action x (map plain_part (first ∷ take (length xs - 1) (drop 1 xs)))) (parts_action x (map plain_part xs)) m m c.begin_part.new.machine
    (ap (λ ys. outcome_with (parts_action x (map plain_part ys)) m) (sym (first_of xs first c.in-len1-up.len_at_least c.part-item.is)))
    c.begin_part.ensures
