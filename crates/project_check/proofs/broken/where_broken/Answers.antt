use Rattle.std.proofs.Common.{ap, ◌∙◌}
use Rattle.cond_formula.specs.Features.{has}
use Rattle.cond_formula.specs.Conditions.{condition_of, value}
use Rattle.project_check.proofs.BrokenLemmas.{at_these}
use Rattle.project_check.proofs.broken.where_broken.Goals as goal

pub returns-clause-exact : goal.returns-clause-exact
returns-clause-exact g c = λ c' admitted.
    let parsed = c.in_ok-parsed.parsed in
    let still_admitted = ap (value (has c')) c.in_ok-parsed.ensures.kept ∙ admitted in
    c.in_ok-f.ensures c' (c.in_ok-parsed.ensures.parsed c' admitted)
    (at_these (has c') c.args.project.now.units.items c.deref.result.now parsed.forests.items c.deref-2.result.now (value (has c') (condition_of c.in_ok-badly_made.badly_made))
    c.deref.ensures.value c.deref-2.ensures.value (c.in_ok-badly_made.ensures.exact c' still_admitted))
