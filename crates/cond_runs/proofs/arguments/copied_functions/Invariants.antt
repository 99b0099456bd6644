use Rattle.std.proofs.Common.{◌≡◌, take}
use Rattle.conditional.specs.Entries.{entries_of}
use Rattle.cond_bodies.specs.CondMeanings.{plain_function}
use Rattle.cond_runs.proofs.arguments.copied_functions.Given as goal

abbrev pub invariant-loop-function : goal.invariant-loop-function
invariant-loop-function l =
    entries_of plain_function l.copies.items ≡ entries_of plain_function (take l.function-index l.functions)
