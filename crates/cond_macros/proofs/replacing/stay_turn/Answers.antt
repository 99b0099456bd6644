use Rattle.std.proofs.Common.{[], ◌∷◌, ap, ◌∙◌}
use Rattle.std.proofs.lemmas.Result.{on_ok_weaker}
use Rattle.c_text.specs.Macros as spec
use Rattle.cond_formula.specs.Features.{has}
use Rattle.cond_formula.specs.Conditions.{condition_of, value}
use Rattle.cond_bodies.specs.CondItems.{item_at}
use Rattle.cond_runs.specs.CondRuns.{run_at}
use Rattle.cond_runs.specs.Pieces.{also, under_piece, items_piece}
use Rattle.cond_macros.proofs.TurnLemmas.{unseen}
use Rattle.cond_macros.proofs.replacing.stay_turn.Goals as goal

pub returns-then-not-possible-clause-read : goal.returns-then-not-possible-clause-read
returns-then-not-possible-clause-read g c = λ exact n admitted within.
    unseen (run_at exact (has n) c.args.run.now) (value (has n) (condition_of c.args.when)) (items_piece exact (item_at (has n) c.args.item.now ∷ [])) (c.in_ok-possible.ensures.no c.if-not-possible.true n admitted within)

pub returns-clause-read : goal.returns-clause-read
returns-clause-read g c =
    on_ok_weaker c.push_item.result (λ h. λ exact n admitted within.
    h exact (has n)
    ∙ ap (λ (i : spec.Item). also (run_at exact (has n) c.args.run.now) (under_piece (value (has n) (condition_of c.args.when)) (items_piece exact (i ∷ [])))) (c.in_ok-try_clone.ensures.item (has n)))
    c.push_item.ensures
