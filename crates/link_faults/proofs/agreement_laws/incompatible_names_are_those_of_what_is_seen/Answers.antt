use Rattle.link_faults.proofs.Correspondence.{incompatible_seen}
use Rattle.link_faults.proofs.agreement_laws.incompatible_names_are_those_of_what_is_seen.Goals as goal

pub returns : goal.returns
returns c = λ on tables by linked units h follow name. incompatible_seen on tables by linked units follow h name
