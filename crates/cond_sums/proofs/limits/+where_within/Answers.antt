use Rattle.std.proofs.Common.{arith, sym, ap, ◌∙◌}
use Rattle.cond_formula.specs.Conditions.{value}
use Rattle.cond_formula.specs.ConditionLaws.{condition_of-True}
use Rattle.cond_sums.proofs.Parts.{within_nothing}
use Rattle.cond_sums.proofs.limits.+where_within.Goals as goal

pub returns-in-empty : goal.returns-in-empty
returns-in-empty t c = λ on. ap (value on) condition_of-True ∙ sym (within_nothing on c.args.parts.now c.args.limit (omega (arith, c.in-empty.len_below)))
