use Rattle.first_values.proofs.Values.{first_values_name_no_members}
use Rattle.first_values.proofs.first_values_name_no_members.Goals as goal

pub returns : goal.returns
returns c = first_values_name_no_members
