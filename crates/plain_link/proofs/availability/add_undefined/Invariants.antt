use Rattle.std.proofs.Common.{◌≡◌, ◌+◌, ◌-◌, ◌++◌, [], map}
use Rattle.std.specs.Prelude.{filter}
use Rattle.plain_link.specs.Faults.{undefined_in, not_available}
use Rattle.plain_link.proofs.availability.add_undefined.Given as goal

abbrev pub invariant-loop-name : goal.invariant-loop-name
invariant-loop-name l =
    map (λ name. name.now) l.found.items ++ filter (not_available l.units l.unit) (map (λ name. name.items) l.name-iterator)
    ≡ map (λ name. name.now) l.initial.found.items ++ undefined_in l.units l.unit
