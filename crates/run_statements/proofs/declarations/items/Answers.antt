use Rattle.std.proofs.Common.{length, take, drop, ◌-◌, sym, ap}
use Rattle.core_meaning.specs.Plain.{plain_item, plain_items}
use Rattle.interp_actions.specs.Actions.{items_action}
use Rattle.run_machine.specs.Machines.{outcome_with}
use Rattle.run_machine.proofs.ListLemmas.{first_of}
use Rattle.run_machine.proofs.MachineLemmas.{do_from}
use Rattle.run_statements.proofs.declarations.items.Goals as goal

pub returns-in-len1-up : goal.returns-in-len1-up
returns-in-len1-up c =
    let m = c.args.machine.now in
    let xs = c.args.items.now in
    let x = c.item-item.result in
    do_from c.begin_item.result (items_action (plain_item x (plain_items (take (length xs - 1) (drop 1 xs))))) (items_action (plain_items xs)) m m c.begin_item.new.machine
    (ap (λ ys. outcome_with (items_action (plain_items ys)) m) (sym (first_of xs x c.in-len1-up.len_at_least c.item-item.is)))
    c.begin_item.ensures
