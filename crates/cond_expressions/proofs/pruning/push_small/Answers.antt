use Rattle.std.proofs.Common.{sym, ap, ◌∙◌}
use Rattle.cond_formula.specs.declared.formulas.Formula.{Formula}
use Rattle.cond_formula.specs.Conditions.{condition_of, value}
use Rattle.cond_formula.specs.ConditionLaws.{condition_of-False}
use Rattle.cond_expressions.proofs.SeenLaws.{never_pushed}
use Rattle.cond_expressions.proofs.pruning.push_small.Goals as goal

pub returns-in-False : goal.returns-in-False
returns-in-False g c = λ on.
    never_pushed (value on (condition_of c.args.entry.now.when)) _ _
    (ap (value on) (sym condition_of-False) ∙ ap (λ (f : Formula). value on (condition_of f)) (sym c.in-False.is) ∙ c.in_ok-when.ensures on)
