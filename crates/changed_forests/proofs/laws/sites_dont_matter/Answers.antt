use Rattle.changed_forests.proofs.Sites.{sites_dont_matter_lem}
use Rattle.changed_forests.proofs.laws.sites_dont_matter.Goals as goal

pub returns : goal.returns
returns c = sites_dont_matter_lem
