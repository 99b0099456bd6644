use Rattle.std.proofs.Common.{◌≡◌, ◌<◌, true, take}
use Rattle.quick_rename.specs.Fronts.{begins_directive}
use Rattle.quick_rename.proofs.fault.directive_len.Given as goal

abbrev pub invariant-loop-i : goal.invariant-loop-i
invariant-loop-i l = 0 < l.i → begins_directive l.parser (take l.i l.word) ≡ true
