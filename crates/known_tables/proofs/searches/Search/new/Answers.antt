use Rattle.std.proofs.Common.{refl}
use Rattle.cond_formula.specs.ConditionLaws.{condition_of-True}
use Rattle.known_tables.proofs.searches.Search.new.Goals as goal

pub returns : goal.returns
returns g c = λ on whole. record { finds = rw condition_of-True (c.nothing.ensures on, refl) }
