use Rattle.std.proofs.Common.{◌∙◌, Some, ap, sym}
use Rattle.command_promises.specs.Sayings.{saying}
use Rattle.command_quick.specs.Steps.{asked}
use Rattle.command_quick.proofs.Reading.{comes_of_file}
use Rattle.command_quick.proofs.renaming.of_file.Goals as goal

pub returns-in_ok-said-in-Ok-clause-came : goal.returns-in_ok-said-in-Ok-clause-came
returns-in_ok-said-in-Ok-clause-came g c =
    comes_of_file (asked c.args.renaming.now) (g.S.Store.state c.args.store.now) c.deref.result.now (saying c.in_ok-said-in-Ok.said)
    (λ t. c.in-Ok.ensures.bytes t ∙ ap Some (sym c.deref.ensures.value)) c.in_ok-said-in-Ok.ensures
