use Rattle.std.proofs.Common.{[], ◌∷◌, ◌++◌, ap, ◌∙◌}
use Rattle.cond_formula.specs.declared.formulas.Formula.{True}
use Rattle.cond_formula.specs.Conditions.{value}
use Rattle.cond_formula.specs.ConditionLaws.{condition_of-True}
use Rattle.choice_expansions.proofs.Crossing.{only_tree}
use Rattle.choice_expansions.proofs.rows.one_tree.Goals as goal

pub returns : goal.returns
returns c = λ on.
    only_tree on (record { when = True; tree = c.args.tree }) c.push.new.self.items
    (c.in_ok-push.ensures.items ∙ ap (λ list. list ++ record { when = True; tree = c.args.tree } ∷ []) c.new-all.ensures.items) (ap (value on) condition_of-True)
