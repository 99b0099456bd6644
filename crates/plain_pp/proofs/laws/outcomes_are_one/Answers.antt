use Rattle.std.proofs.Common.{sym, ◌∙◌}
use Rattle.plain_pp.proofs.laws.outcomes_are_one.Goals as goal

pub returns : goal.returns
returns c =
    λ s number a b one other.
    let x = c.projects_have_syntax.ensures s in
    sym (one x.0 x.1) ∙ other x.0 x.1
