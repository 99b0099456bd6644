use Rattle.c_types.specs.Types.{plain_type}
use Rattle.core_meaning.specs.Plain.{plain_expression}
use Rattle.core_meaning.specs.Program as program_form
use Rattle.interp_actions.specs.Actions as plain
use Rattle.run_machine.proofs.MachineLemmas.{do_alone}
use Rattle.variant_interp.proofs.steps.to_temporary.Goals as goal

pub returns : goal.returns
returns c = do_alone c.begin_temporary.result (plain.place_action (program_form.temporary (plain_type c.args.ty.now) (plain_expression c.args.value.now))) c.args.machine.now c.begin_temporary.new.control c.begin_temporary.ensures
