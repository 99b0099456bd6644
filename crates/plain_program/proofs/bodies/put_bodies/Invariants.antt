use Rattle.std.proofs.Common.{◌≡◌, ℕ, map, vec_len}
use Rattle.core_meaning.specs.Entities.{or_else}
use Rattle.plain_link.specs.PlainDefinitions.{plain_defined}
use Rattle.plain_numbers.specs.declared.places.Linked.{Linked}
use Rattle.plain_program.specs.Bodies.{held, whole_for}
use Rattle.plain_program.proofs.bodies.put_bodies.Given as goal

abbrev pub invariant-loop-defined : goal.invariant-loop-defined
invariant-loop-defined l = (globals : ℕ) → (key : Linked) →
    or_else (whole_for l.index (map (plain_defined globals) l.rest.items) key) (held globals l.bodies key)
    ≡ or_else (whole_for l.index (map (plain_defined globals) l.initial.rest.items) key) (held globals l.initial.bodies key)

abbrev pub decreases-loop-defined : goal.decreases-loop-defined
decreases-loop-defined l = vec_len l.rest
