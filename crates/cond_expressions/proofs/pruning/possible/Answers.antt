use Rattle.std.proofs.Common.{◌∙◌}
use Rattle.cond_formula.specs.Features.{has}
use Rattle.conditional.specs.Entries.{alternatives}
use Rattle.cond_expressions.proofs.SeenLaws.{sees_alike}
use Rattle.cond_expressions.proofs.pruning.possible.Goals as goal

pub returns-clause-same : goal.returns-clause-same
returns-clause-same g c = λ n admitted o s.
    sees_alike (has n) (alternatives g.T.Plain.form c.args.all) (alternatives g.T.Plain.form (record { alternatives = c.in_ok-entries.field-0.entries }))
    (c.in_ok-entries.ensures.same n admitted ∙ c.in_ok-smaller.ensures (has n)) o s
