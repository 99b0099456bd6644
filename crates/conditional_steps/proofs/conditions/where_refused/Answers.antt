use Rattle.std.proofs.Common.{ap, ◌∙◌}
use Rattle.std.proofs.lemmas.Result.{IfOk-weaker}
use Rattle.conditional.specs.Entries.{entries_of, some_holds}
use Rattle.conditional_steps.proofs.Refusals.{refusals_hold}
use Rattle.conditional_steps.proofs.conditions.where_refused.Goals as goal

pub returns : goal.returns
returns g c =
    IfOk-weaker c.when_some_hold.result _ _ (λ f holds on x shows.
    holds on ∙ ap (λ es. some_holds on (entries_of g.R.Plain.form es)) c.deref.ensures.value ∙ refusals_hold g.T.Plain.form g.R.Plain.form on x c.args.all.now shows) c.when_some_hold.ensures
