use Rattle.std.proofs.Common.{◌∷◌, map, reverse, ap, ◌∙◌}
use Rattle.core_meaning.specs.Plain.{plain_arguments}
use Rattle.core_cells.specs.Forms.{plain_value}
use Rattle.interp_actions.specs.Actions.{arguments_action}
use Rattle.run_machine.specs.Machines.{outcome_with}
use Rattle.run_machine.proofs.ListLemmas.{pushed_value}
use Rattle.run_machine.proofs.MachineLemmas.{do_from}
use Rattle.run_calls.proofs.calls.with_argument.Goals as goal

pub returns : goal.returns
returns c =
    let m = c.args.machine.now in
    let f = c.args.function in
    let rest = plain_arguments c.args.arguments.now in
    let items = c.args.values.items in
    let v = c.args.value in
    do_from c.next_argument.result (arguments_action f rest (reverse (map plain_value c.push.new.self.items))) (arguments_action f rest (plain_value v ∷ reverse (map plain_value items))) m m c.next_argument.new.machine
    (ap (λ before. outcome_with (arguments_action f rest before) m) (ap (λ xs. reverse (map plain_value xs)) c.in_ok-push.ensures.items ∙ pushed_value items v))
    c.next_argument.ensures
