use Rattle.std.proofs.Common.{rules}
use Rattle.cond_formula.specs.Features.{has}
use Rattle.cond_formula.specs.Conditions.{condition_of}
use Rattle.conditional.specs.Judgements.{checked}
use Rattle.conditional.proofs.CrossingLaws.{row_at_once}
use Rattle.conditional.proofs.crossing.place_row.Goals as goal

pub returns-in_ok-place-in-Some-clause-judges : goal.returns-in_ok-place-in-Some-clause-judges
returns-in_ok-place-in-Some-clause-judges g c = λ gives computes n admitted.
    row_at_once g.C.Plain.form g.R.Plain.form (has n) gives _ _ _ (checked g.C.Plain.form g.R.Plain.form c.in-Some.outcome) (condition_of c.in_ok-try_clone-in-Some.field-0) c.args.all.now c.place.new.self (search rules) (search rules) (c.in_ok-place-in-Some.ensures (has n))
