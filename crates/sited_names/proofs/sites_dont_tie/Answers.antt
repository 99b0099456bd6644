use Rattle.sited_names.proofs.Ties.{sites_dont_tie_lem}
use Rattle.sited_names.proofs.sites_dont_tie.Goals as goal

pub returns : goal.returns
returns c = sites_dont_tie_lem c.sites_dont_name.ensures
