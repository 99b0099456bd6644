use Rattle.std.proofs.Common.{◌≡◌, ◌+◌, ◌-◌, ◌++◌, [], drop, map}
use Rattle.plain_link.specs.Faults.{undefined_names}
use Rattle.plain_link.proofs.availability.undefined.Given as goal

abbrev pub invariant-loop-unit : goal.invariant-loop-unit
invariant-loop-unit l =
    map (λ name. name.now) l.found.items ++ undefined_names l.units (drop l.unit-index l.units) ≡ undefined_names l.units l.units
