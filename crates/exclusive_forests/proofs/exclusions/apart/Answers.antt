use Rattle.cond_formula.specs.Conditions.{condition_of, value}
use Rattle.exclusive_forests.proofs.ApartLaws.{apart_already}
use Rattle.exclusive_forests.proofs.exclusions.apart.Goals as goal

pub returns-then-is_excluded : goal.returns-then-is_excluded
returns-then-is_excluded c = λ on known. apart_already on (value on (condition_of c.args.when)) (value on (condition_of c.args.other.now)) (λ holds. c.is_excluded.ensures c.if-is_excluded.true on (known holds))
