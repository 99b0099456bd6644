use Rattle.core_meaning.specs.Plain.{plain_place}
use Rattle.core_meaning.specs.Program as program_form
use Rattle.interp_actions.specs.Actions as plain
use Rattle.run_machine.proofs.MachineLemmas.{do_alone}
use Rattle.variant_interp.proofs.steps.to_member.Goals as goal

pub returns : goal.returns
returns c = do_alone c.begin_member.result (plain.place_action (program_form.member (plain_place c.args.inner.now) c.args.number)) c.args.machine.now c.begin_member.new.control c.begin_member.ensures
