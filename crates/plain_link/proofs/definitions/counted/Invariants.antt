use Rattle.std.proofs.Common.{map, take}
use Rattle.plain_link.specs.PlainDefinitions.{plain_defined}
use Rattle.plain_link.specs.Counts.{CountsOf}
use Rattle.plain_link.proofs.definitions.counted.Given as goal

abbrev pub invariant-loop-defined : goal.invariant-loop-defined
invariant-loop-defined l = CountsOf l.counts (map (plain_defined 0) (take l.defined-index l.list))
