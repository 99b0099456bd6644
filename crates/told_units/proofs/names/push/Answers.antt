use Rattle.told_occurrences.specs.declared.told.ToldName.{ToldName}
use Rattle.told_units.proofs.Lists.{pushed}
use Rattle.told_units.proofs.names.push.Goals as goal

pub returns : goal.returns
returns c on =
    let n : ToldName = record { number = c.args.number; name = c.args.name; when = c.args.when } in
    pushed on c.args.all.now.items _ n c.in_ok-push.ensures.items
