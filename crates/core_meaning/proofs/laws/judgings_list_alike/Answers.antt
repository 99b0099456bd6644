use Rattle.core_meaning.proofs.Outlines.{judgings_list_alike}
use Rattle.core_meaning.proofs.laws.judgings_list_alike.Goals as goal

pub returns : goal.returns
returns c = judgings_list_alike
