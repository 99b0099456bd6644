use Rattle.std.proofs.Common.{Bool, not, ◌&&◌, [], ◌∷◌, sym, ap, ◌∙◌}
use Rattle.std.proofs.lemmas.Result.{IfOk-weaker}
use Rattle.cond_formula.specs.Features.{has}
use Rattle.cond_formula.specs.Conditions.{Condition, condition_of, value}
use Rattle.cond_runs.specs.CondCalls.{held_at}
use Rattle.cond_runs.specs.CondRuns.{run_at}
use Rattle.cond_runs.specs.Pieces.{also, under_piece, open_piece}
use Rattle.cond_macros.proofs.TurnLemmas.{both_first}
use Rattle.cond_macros.proofs.replacing.stay_elsewhere.Goals as goal

pub push_copy-requires : goal.push_copy-requires
push_copy-requires g c = λ n e.
    both_first (value (has n) (condition_of c.args.call.now.when)) (not (value (has n) (condition_of c.args.when.now)))
    (sym (c.in_ok-elsewhere.ensures (has n) ∙ ap (λ (d : Condition). value (has n) d && not (value (has n) (condition_of c.args.when.now))) c.in_ok-try_clone.ensures) ∙ e)

pub returns-clause-read : goal.returns-clause-read
returns-clause-read g c =
    IfOk-weaker c.inner.result _ _ (λ f h. λ exact n admitted within.
    c.in_ok-push_copy.ensures.read exact n admitted within
    ∙ ap (λ (b : Bool). also (run_at exact (has n) c.args.run.now) (under_piece b (open_piece (held_at (has n) c.args.call.now ∷ []))))
    (c.in_ok-elsewhere.ensures (has n) ∙ ap (λ (d : Condition). value (has n) d && not (value (has n) (condition_of c.args.when.now))) c.in_ok-try_clone.ensures))
    c.inner.ensures
