use Rattle.std.proofs.Common.{false, refl, ap, subst}
use Rattle.cond_formula.specs.Conditions.{value}
use Rattle.cond_formula.specs.ConditionLaws.{condition_of-True}
use Rattle.conditional.specs.Judgements.{checked, Shows}
use Rattle.operand_rules.specs.PlainOperandTypes.{reason}
use Rattle.cond_declarators.proofs.shown.everywhere.Goals as goal

pub returns : goal.returns
returns g c = λ on.
    subst (λ b. Shows g.T.Plain.form reason on b (checked g.T.Plain.form reason c.args.what) c.place.new.self) (ap (value on) condition_of-True)
    ((c.in_ok-place.ensures on).shows false (checked g.T.Plain.form reason c.args.what) (c.nothing-all.ensures on (checked g.T.Plain.form reason c.args.what)) (λ t. refl))
