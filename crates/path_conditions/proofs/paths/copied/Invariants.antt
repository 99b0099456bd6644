use Rattle.std.proofs.Common.{◌≡◌, map, take}
use Rattle.cond_formula.specs.Conditions.{condition_of}
use Rattle.path_conditions.proofs.paths.copied.Given as goal

abbrev pub invariant-loop-known : goal.invariant-loop-known
invariant-loop-known l = map condition_of l.copies.items ≡ map condition_of (take l.known-index l.path)
