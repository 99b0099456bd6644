use Rattle.std.proofs.Common.{◌≡◌, map, take}
use Rattle.cond_formula.specs.Conditions.{condition_of}
use Rattle.cond_formula.proofs.+copy.Given as goal

abbrev pub invariant-copies::copied-loop-part : goal.invariant-copies::copied-loop-part
invariant-copies::copied-loop-part l =
    map condition_of l.copies.items ≡ map condition_of (take l.part-index l.parts)
