use Rattle.std.proofs.Common.{◌≡◌, Bool, true, false, IsTrue}
use Rattle.link_faults.proofs.OtherNames.{not_undefined, not_duplicate}
use Rattle.link_faults.proofs.laws.other_names_have_no_fault.Goals as goal

never : (b : Bool) → b ≡ false → IsTrue b → ⊥
never true e t = cc
never false e t = cc

pub returns-clause-no_main : goal.returns-clause-no_main
returns-clause-no_main c = λ linked name f. f.0

pub returns-clause-undefined : goal.returns-clause-undefined
returns-clause-undefined c = λ linked name h f. never _ (not_undefined name linked.units h) f

pub returns-clause-duplicate : goal.returns-clause-duplicate
returns-clause-duplicate c = λ linked name h f. never _ (not_duplicate name linked.units h) f
