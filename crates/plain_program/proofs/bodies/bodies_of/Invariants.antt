use Rattle.std.proofs.Common.{◌≡◌, ℕ, map, vec_len}
use Rattle.core_meaning.specs.Entities.{or_else}
use Rattle.plain_link.specs.PlainUnits.{plain_unit}
use Rattle.plain_numbers.specs.declared.places.Linked.{Linked}
use Rattle.plain_program.specs.Bodies.{held, body_for}
use Rattle.plain_program.proofs.bodies.bodies_of.Given as goal

abbrev pub invariant-loop-unit : goal.invariant-loop-unit
invariant-loop-unit l = (globals : ℕ) → (key : Linked) →
    or_else (body_for (map (plain_unit globals) l.rest.items) key) (held globals l.bodies key)
    ≡ body_for (map (plain_unit globals) l.initial.rest.items) key

abbrev pub decreases-loop-unit : goal.decreases-loop-unit
decreases-loop-unit l = vec_len l.rest
