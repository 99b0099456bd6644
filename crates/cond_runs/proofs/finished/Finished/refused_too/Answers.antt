use Rattle.std.proofs.Common.{Bool, map, Some, ap, ◌∙◌}
use Rattle.cond_formula.specs.Conditions.{condition_of, value}
use Rattle.cond_bodies.specs.CondItems.{items_at}
use Rattle.cond_runs.specs.Looked.{looked, unless}
use Rattle.cond_runs.specs.CondFinished.{given_at}
use Rattle.cond_runs.proofs.RunLemmas.{unless_either}
use Rattle.cond_runs.proofs.finished.Finished.refused_too.Goals as goal

pub returns : goal.returns
unfolding given_at
returns c = λ exact on.
    let items = map (looked exact) (items_at on c.args.self.items.items) in
    ap (λ (b : Bool). unless b (Some items)) (c.in_ok-refused.ensures on)
    ∙ unless_either (value on (condition_of c.args.self.refused)) (value on (condition_of c.args.when)) (Some items)
