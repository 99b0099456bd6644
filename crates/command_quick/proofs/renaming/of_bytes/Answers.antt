use Rattle.command_promises.specs.Sayings.{saying}
use Rattle.command_quick.specs.Steps.{asked}
use Rattle.command_quick.proofs.Reading.{renamed_said}
use Rattle.command_quick.proofs.renaming.of_bytes.Goals as goal

pub returns-in_ok-said-in-Renamed : goal.returns-in_ok-said-in-Renamed
returns-in_ok-said-in-Renamed c =
    renamed_said (asked c.args.renaming.now) c.args.bytes.now _ _ _ c.in-Renamed.bytes c.in-Renamed.tokens (saying c.in_ok-said-in-Renamed.said)
    c.as_bytes.ensures.value c.as_bytes-2.ensures.value c.in_ok-answer.ensures.answer c.in-Renamed.is c.in_ok-said-in-Renamed.ensures
