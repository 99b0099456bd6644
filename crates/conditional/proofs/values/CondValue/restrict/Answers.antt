use Rattle.cond_formula.specs.Conditions.{condition_of}
use Rattle.conditional.specs.Entries.{alternatives}
use Rattle.conditional.proofs.ValueLaws.{restricted}
use Rattle.conditional.proofs.values.CondValue.restrict.Goals as goal

pub returns : goal.returns
returns g c = λ on o s.
    restricted on (condition_of c.args.when.now) (alternatives g.T.Plain.form c.args.self.now) (alternatives g.T.Plain.form c.nothing-restricted.result) _ (c.nothing-restricted.ensures on) (c.in_ok-place_under.ensures on) o s
