use Rattle.std.proofs.Common.{◌≡◌, drop, map}
use Rattle.plain_link.specs.Faults.{least_from}
use Rattle.plain_link.proofs.order.least.Given as goal

abbrev pub invariant-loop-name : goal.invariant-loop-name
invariant-loop-name l =
    least_from l.least (map (λ name. name.now) (drop l.name-index l.rest)) ≡ least_from l.initial.least (map (λ name. name.now) l.rest)
