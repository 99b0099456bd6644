use Rattle.std.proofs.Common.{List, sym, subst}
use Rattle.cond_formula.specs.Conditions.{condition_of}
use Rattle.cond_groups.specs.Groups.{PlainGroup, AllFit, groups_of}
use Rattle.cond_groups.specs.GroupLaws.{fits-left}
use Rattle.cond_pp.proofs.walk.CondWalker.end_group.Goals as goal

pub returns-in_ok-refuse_end-in-Some-clause-fit : goal.returns-in_ok-refuse_end-in-Some-clause-fit
returns-in_ok-refuse_end-in-Some-clause-fit c =
    λ on fit.
    let self = c.args.self.now in
    subst (λ (gs : List PlainGroup). AllFit on (condition_of self.entered) gs) (sym c.pop.ensures) (fits-left on (condition_of self.entered) (groups_of self.groups) fit)
