use Rattle.std.proofs.Common.{◌++◌, ap, ◌∙◌}
use Rattle.cond_formula.specs.Conditions.{value}
use Rattle.cond_formula.specs.ConditionLaws.{condition_of-True}
use Rattle.conditional.specs.Entries.{listed, seen, under}
use Rattle.operand_rules.specs.PlainOperandTypes.{reason}
use Rattle.cond_declarators.proofs.objects.after.Goals as goal

pub returns-clause-refusals : goal.returns-clause-refusals
returns-clause-refusals c = λ on.
    c.in_ok-append.ensures on
    ∙ ap (λ list. list ++ seen on (listed reason c.args.later.refused))
    (c.in_ok-refused.ensures on ∙ ap (λ b. under b (seen on (listed reason c.args.earlier.now))) (ap (value on) condition_of-True))
