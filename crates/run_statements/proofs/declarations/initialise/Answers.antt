use Rattle.std.proofs.Common.{◌-◌, ◌∷◌, length, take, drop, map, ap}
use Rattle.core_meaning.specs.Plain.{plain_part}
use Rattle.interp_actions.specs.Actions.{initialise_action, parts_action}
use Rattle.interp_actions.specs.Forms.{plain_initialiser}
use Rattle.run_machine.proofs.ListLemmas.{first_of}
use Rattle.run_machine.proofs.MachineLemmas.{do_from}
use Rattle.run_statements.proofs.PartLemmas.{initialiser_begins}
use Rattle.run_statements.proofs.declarations.initialise.Goals as goal

pub returns-in-len1-up : goal.returns-in-len1-up
returns-in-len1-up c =
    let m = c.args.machine.now in
    let x = plain_initialiser c.args.target in
    let xs = c.args.target.parts.now in
    let first = c.part-item.result in
    let left = take (length xs - 1) (drop 1 xs) in
    do_from c.begin_part.result (parts_action x (map plain_part (first ∷ left))) (initialise_action x) m m c.begin_part.new.machine
    (initialiser_begins m x (plain_part first) (map plain_part left) (ap (map plain_part) (first_of xs first c.in-len1-up.len_at_least c.part-item.is)))
    c.begin_part.ensures
