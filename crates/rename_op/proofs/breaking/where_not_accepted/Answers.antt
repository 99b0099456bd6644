use Rattle.std.proofs.Common.{ap, ◌∙◌}
use Rattle.std.specs.Prelude.{not}
use Rattle.cond_formula.specs.Features.{has}
use Rattle.cond_formula.specs.Conditions.{condition_of, value}
use Rattle.rename_op.proofs.Told.{broken-told}
use Rattle.rename_op.proofs.breaking.where_not_accepted.Goals as goal

pub returns : goal.returns
returns c = λ place is before.
    broken-told c.args.asked.now place is (condition_of c.in_ok-f.f)
    (λ n. c.in_ok-f.ensures.holds (has n) ∙ ap (λ f. not (value (has n) f)) c.in_ok-accepted.ensures)
