use Rattle.told_occurrences.specs.Units.{names_seen}
use Rattle.told_units.proofs.Lists.{name_too}
use Rattle.told_units.proofs.names.told_names.Goals as goal

pub loop-one-preserved : goal.loop-one-preserved
loop-one-preserved c on unit pairs tells own =
    name_too on unit pairs _ c.one-item.result c.loop-one.one-index c.loop-one-test.true c.one-item.is (names_seen on c.loop-one.all.items) _ _ (c.in_ok-push_entry.ensures on unit pairs tells own)
    (c.loop-one.invariant on unit pairs tells own)
