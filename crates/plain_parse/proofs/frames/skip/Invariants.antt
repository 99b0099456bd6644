use Rattle.std.proofs.Common.{◌≡◌, ◌++◌, map}
use Rattle.std.specs.Prelude.{replicate}
use Rattle.plain_parse.specs.Kept.{of_kept}
use Rattle.plain_parse.specs.Frames.{plain_built}
use Rattle.plain_parse.proofs.frames.skip.Given as goal

abbrev pub invariant-loop : goal.invariant-loop
invariant-loop l = map plain_built l.parts.items ≡ map plain_built l.initial.parts.items ++ replicate l.counter of_kept.of_nothing
