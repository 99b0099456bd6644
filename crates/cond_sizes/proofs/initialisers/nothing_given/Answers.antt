use Rattle.std.proofs.Common.{false, refl, ap, subst}
use Rattle.cond_formula.specs.Conditions.{value}
use Rattle.cond_formula.specs.ConditionLaws.{condition_of-True}
use Rattle.conditional.specs.Judgements.{refused, Shows}
use Rattle.operand_rules.specs.PlainOperandTypes.{reason}
use Rattle.cond_sizes.specs.Sizes.{plain_count}
use Rattle.cond_sizes.proofs.initialisers.nothing_given.Goals as goal

pub returns : goal.returns
returns c = λ on.
    subst (λ b. Shows plain_count reason on b (refused tt) c.place.new.self) (ap (value on) condition_of-True)
    ((c.in_ok-place.ensures on).shows false (refused tt) (c.nothing-all.ensures on (refused tt)) (λ t. refl))
