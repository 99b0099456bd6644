use Rattle.sited_names.proofs.Names.{sites_dont_name_lem}
use Rattle.sited_names.proofs.sites_dont_name.Goals as goal

pub returns : goal.returns
returns c = sites_dont_name_lem
