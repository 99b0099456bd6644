use Rattle.std.proofs.Common.{ap, ◌∙◌}
use Rattle.cond_formula.specs.Conditions.{value}
use Rattle.cond_formula.specs.ConditionLaws.{condition_of-False}
use Rattle.cond_bindings.proofs.name_uses.use_at_file.Goals as goal

pub returns-in-None-clause-undeclared : goal.returns-in-None-clause-undeclared
returns-in-None-clause-undeclared c =
    λ on.
    let none = rw c.in-None.is at c.in_ok-without_visible.ensures in
    ap (value on) condition_of-False ∙ none on
