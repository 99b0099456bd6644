use Rattle.std.proofs.Common.{◌≡◌, map, take}
use Rattle.core_meaning.specs.Values.{part}
use Rattle.core_cells.specs.Forms.{plain_step}
use Rattle.core_cells.proofs.values.path_of.Given as goal

abbrev pub invariant-loop-number : goal.invariant-loop-number
invariant-loop-number l = map plain_step l.path.items ≡ map part (take l.number-index l.numbers)
