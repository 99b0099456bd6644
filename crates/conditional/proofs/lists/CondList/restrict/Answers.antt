use Rattle.std.proofs.Common.{List, ◌++◌, ap, ◌∙◌}
use Rattle.cond_formula.specs.Conditions.{condition_of, value}
use Rattle.conditional.specs.Entries.{listed, seen, under}
use Rattle.conditional.proofs.lists.CondList.restrict.Goals as goal

pub returns : goal.returns
returns g c = λ on.
    c.in_ok-append_under.ensures on ∙ ap (λ (l : List g.T.Plain.Form). l ++ under (value on (condition_of c.args.when.now)) (seen on (listed g.T.Plain.form c.args.self.now))) (c.empty-restricted.ensures on)
