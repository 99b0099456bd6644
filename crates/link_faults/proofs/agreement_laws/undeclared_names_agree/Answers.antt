use Rattle.link_faults.proofs.Correspondence.{undeclared_agree}
use Rattle.link_faults.proofs.agreement_laws.undeclared_names_agree.Goals as goal

pub returns : goal.returns
returns c = λ linked name h k. undeclared_agree linked name h k
