use Rattle.command_check.proofs.Concluding.{check_ends}
use Rattle.command_check.proofs.laws.check_concludes.Goals as goal

pub returns : goal.returns
returns c = check_ends c.no_file_is_left_out.ensures c.no_product_is_left_out.ensures c.programs_are_one.ensures
